-- The third demand is met: by the node of document 01, and by whatever is handed back by two calls that meet their promises. Assumes nothing.
use mathlib.Core.Path.{◌≡◌}
use mathlib.Core.List.{List}
use Prim.Native.Nat.{ℕ}
use lib.ListN.{length}
use Rattle.model.specs.declared.Identity.{Identity}
use Rattle.model.specs.Bytes.{Bytes}
use Rattle.model.specs.Store.{read}
use Rattle.model.specs.Step.{done, power_on_refusal}
use Rattle.model.specs.Run.{Call, World, begun, run, Session}
use Rattle.model.specs.Demands.{Demanded, Meets}
use Rattle.laws.specs.Nodes.{proved}
use Rattle.laws.proofs.History.{history, history_addresses, ledger, ledger_id, number_told}
use Rattle.laws.proofs.PairsInLog.{pairs_in_log}
use Rattle.laws.proofs.Calls.{of_session}

-- over every run
pub demanded : (i : Identity) (room : ℕ) (st : List ℕ) (cs : List Call) → power_on_refusal room (length st) ≡ done → Bytes st
    → Demanded (read st) (run cs (begun i room st))
unfolding run begun
demanded i room st cs accepted bytes =
    record {
      values = history i room st cs accepted bytes;
      places = history_addresses i room st cs accepted bytes;
      helds = ledger i room st cs accepted bytes;
      held_id_lem = ledger_id i room st cs accepted bytes;
      pairs = pairs_in_log i room st cs accepted bytes;
      number = number_told i room st cs accepted bytes;
    }

-- so by the node of document 01, in the words that wrong nodes fail
pub right_node_lem : Meets proved
unfolding run begun
right_node_lem i room st cs accepted bytes = demanded i room st cs accepted bytes

-- and over every session with the two calls
pub third_demand : (i : Identity) (st lent : List ℕ) (cs : List Call) (y : World) → Session i st lent cs y
    → power_on_refusal (length lent) (length st) ≡ done → Bytes st → Demanded (read st) y
third_demand i st lent cs y s accepted bytes = of_session (Demanded (read st)) i st lent cs y s (demanded i (length lent) st cs accepted bytes)
