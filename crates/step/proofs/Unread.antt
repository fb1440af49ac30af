-- No SDO request is a load: the store need not be read for it. Assumes nothing.
use Prim.Native.Nat.{ℕ}
use mathlib.Core.List.{List}
use lib.Dec.{eqb}
use Rattle.std.proofs.Common.{Result, Ok, Err, Option}
use Rattle.model.specs.declared.Entry.{Entry}
use Rattle.model.specs.declared.Entry.TheVariants.{Fixed, Name, Shown, Setting, SaveWord, LoadWord}
use Rattle.model.specs.declared.Missing.{Missing}
use Rattle.model.specs.declared.Change.{Change}
use Rattle.model.specs.declared.SdoRequest.{SdoRequest}
use Rattle.model.specs.declared.SdoRequest.TheVariants as R
use Rattle.model.specs.declared.State.{State}
use Rattle.model.specs.Dictionary.{find}
use Rattle.model.specs.Sdo.{write_code, asked, checked_write, change_in, sdo_change}
use Rattle.laws.proofs.Tests.{cond_case}
use Rattle.image.specs.declared.Sizes.{Sizes}
use Rattle.step.specs.Asked.{SizesFor}

write_unread : (f : Result Entry Missing) (d : ℕ) (st : List ℕ) (z : Option Sizes) → SizesFor (asked f d) st z
write_unread (Err m) d st z = tt
write_unread (Ok (Fixed x)) d st z = tt
write_unread (Ok Name) d st z = tt
write_unread (Ok (Shown l)) d st z = tt
write_unread (Ok (Setting p)) d st z = tt
write_unread (Ok (SaveWord gs)) d st z = tt
write_unread (Ok (LoadWord gs)) d st z = tt

pub sdo_unread : (q : SdoRequest) (s : State) (st : List ℕ) (z : Option Sizes) → SizesFor (sdo_change q s) st z
unfolding sdo_change checked_write
sdo_unread (R.Download index sub size d) s st z =
    cond_case (λ (x : Result Change ℕ). SizesFor (change_in x) st z) (eqb (write_code (find index sub) size d s) 0)
    (λ _. write_unread (find index sub) d st z)
    (λ _. tt)
sdo_unread (R.Upload index sub) s st z = tt
sdo_unread (R.UploadSegment toggle) s st z = tt
sdo_unread R.ClientAbort s st z = tt
sdo_unread R.DownloadSegment s st z = tt
sdo_unread (R.Unknown index sub) s st z = tt
