-- What an event asks names one of the four parts of the identity, which `lss_reply` requires: its command byte is one of a run of four. Assumes nothing.
use mathlib.Core.Path.{◌≡◌, refl}
use mathlib.Core.Bool.{Bool, true, false, cond, ◌&&◌, and-eq-true_iff}
use mathlib.Core.List.{List}
use Prim.Native.Nat.{ℕ, ◌+◌, ◌-◌, ◌≤◌}
use native.Mathlib.Omega.{arith}
use borrow.Author.Tests.{leb-true}
use lib.Dec.{eqb, leb}
use Rattle.model.specs.Choice.{first_hit}
use Rattle.model.specs.Frames.{kind_of_event, can_id, flag_in, length_in, data_at, data_number, sync_id, tpdos, sdo_requests, lss_requests}
use Rattle.model.specs.Service.{lss_mode, lss_node_id, lss_bit_index, lss_store, lss_select, lss_identity, lss_active_id, of_four, of_node, lss_by, lss_request, remote_service, frame_service, service}
use Rattle.lss.specs.Told.{part_of, part_in}

-- a choice is small where both of its sides are
small : {A : Type 0} (f : A → ℕ) (b : Bool) {x y : A} → (b ≡ true → f x ≤ 3) → f y ≤ 3 → f (cond b x y) ≤ 3
small f true p q = p refl
small f false p q = q

part_of_four : (first command : ℕ) → of_four first command ≡ true → command - first ≤ 3
part_of_four first command h =
    let k = (and-eq-true_iff (leb first command) (leb command (first + 3))).0 h in
    omega (arith, leb-true first command k.0, leb-true command (first + 3) k.1)

by_part : (command one two number : ℕ) → part_of (lss_by command one two number) ≤ 3
unfolding first_hit
by_part command one two number =
    small part_of (eqb command lss_mode) (λ _. omega arith)
    (small part_of (of_four lss_select command) (part_of_four lss_select command)
    (small part_of (eqb command lss_node_id) (λ _. omega arith)
    (small part_of (eqb command lss_bit_index) (λ _. omega arith)
    (small part_of (eqb command lss_store) (λ _. omega arith)
    (small part_of (of_four lss_identity command) (part_of_four lss_identity command)
    (small part_of (eqb command lss_active_id) (λ _. omega arith) (omega arith)))))))

remote_part : (id : ℕ) → part_in (remote_service id) ≤ 3
unfolding remote_service
remote_part id = small part_in (of_node tpdos id) (λ _. omega arith) (omega arith)

frame_part : (e : List ℕ) → part_in (frame_service e) ≤ 3
unfolding frame_service first_hit lss_request
frame_part e =
    small part_in (eqb (flag_in e) 1) (λ _. remote_part (can_id e))
    (small part_in (eqb (can_id e) 0 && eqb (length_in e) 2) (λ _. omega arith)
    (small part_in (eqb (can_id e) sync_id && eqb (length_in e) 0) (λ _. omega arith)
    (small part_in (of_node sdo_requests (can_id e) && eqb (length_in e) 8) (λ _. omega arith)
    (small part_in (eqb (can_id e) lss_requests && eqb (length_in e) 8) (λ _. by_part (data_at 0 e) (data_at 1 e) (data_at 2 e) (data_number 1 4 e))
    (omega arith)))))

-- what a caller of `lss_reply` cites, with `v ≡ service e`
pub asked_part : (e : List ℕ) → part_in (service e) ≤ 3
unfolding service first_hit
asked_part e =
    small part_in (eqb (kind_of_event e) 2) (λ _. omega arith)
    (small part_in (eqb (kind_of_event e) 3) (λ _. omega arith) (frame_part e))
