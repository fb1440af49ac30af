-- The part of the identity that a request names. Assumes nothing.
use Rattle.std.specs.Prelude.{ℕ}
use Rattle.model.specs.declared.LssRequest.{LssRequest}
use Rattle.model.specs.declared.LssRequest.TheVariants.{SwitchMode, Select, SetNodeId, SetBitIndex, StorePending, AskIdentity, AskNodeId, OtherLss}
use Rattle.model.specs.declared.Service.{Service}
use Rattle.model.specs.declared.Service.TheVariants.{Nothing, Tick, Sample, Nmt, Sync, Remote, Sdo, Lss}

-- the part of the identity, counted from 0; 0 for a request that names none
abbrev pub part_of : LssRequest → ℕ
part_of (SwitchMode mode) = 0
part_of (Select n number) = n
part_of (SetNodeId id) = 0
part_of (SetBitIndex table bit) = 0
part_of StorePending = 0
part_of (AskIdentity n) = n
part_of AskNodeId = 0
part_of OtherLss = 0

-- the same of what an event asks
abbrev pub part_in : Service → ℕ
part_in Nothing = 0
part_in Tick = 0
part_in (Sample fv) = 0
part_in (Nmt command to) = 0
part_in Sync = 0
part_in (Remote to) = 0
part_in (Sdo to r) = 0
part_in (Lss r) = part_of r
