-- `load::load_c` meets its contract: the COB-ID rule, by its test. Assumes nothing.
use Rattle.std.proofs.Common.{◌≡◌, ◌∙◌, sym, ap, ℕ, List, true, false}
use lib.Dec.{eqb}
use borrow.Author.Tests.{eq-eqb, ne_eqb}
use Rattle.model.specs.declared.Group.TheVariants.{C}
use Rattle.model.specs.declared.Settings.{Settings}
use Rattle.model.specs.Bytes.{byte_at}
use Rattle.model.specs.Settings.{altered}
use Rattle.records.specs.Decoded.{from_record}
use Rattle.store.specs.Saved.{for_id, cobs_of}
use Rattle.store.proofs.load.load_c.Goals as goal

same_id : (id : ℕ) (r : List ℕ) (k : Settings) → eqb (byte_at 0 r) id ≡ true → altered (from_record C r) k ≡ altered (for_id C id r) k
same_id id r k h = rw h

other_id : (id : ℕ) (r : List ℕ) (k : Settings) → eqb (byte_at 0 r) id ≡ false
    → altered (cobs_of id) (altered (from_record C r) k) ≡ altered (for_id C id r) k
other_id id r k h = rw h

pub returns-then-byte-id : goal.returns-then-byte-id
returns-then-byte-id c =
    let a = c.args in
    c.decode.ensures a.k ∙ same_id a.id a.r.now a.k (eq-eqb _ _ (sym c.byte.ensures ∙ c.if-byte-id.true))

pub returns : goal.returns
returns c =
    let a = c.args in
    c.follow_id.ensures
    ∙ ap (altered (cobs_of a.id)) (c.decode.ensures a.k)
    ∙ other_id a.id a.r.now a.k (ne_eqb _ _ (λ e. c.if-byte-id.false (c.byte.ensures ∙ e)))
