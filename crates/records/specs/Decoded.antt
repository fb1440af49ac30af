-- What a record says of the parameters. Assumes nothing.
use Rattle.std.specs.Prelude.{ℕ, cond, List}
use Rattle.std.specs.Float.{binary32}
use Rattle.std.specs.Float.Ieee.{of_bits}
use Rattle.model.specs.declared.Parameter.{Parameter}
use Rattle.model.specs.declared.Group.{Group}
use Rattle.model.specs.declared.Scaling.{Scaling}
use Rattle.model.specs.Bytes.{number_at}
use Rattle.model.specs.Settings.{row, same_group, Now, stays, becomes}
use Rattle.model.specs.Store.{field}

-- the parameters of a group become those of its record, the others stay
abbrev pub from_record : Group → List ℕ → Parameter → Now
from_record g r p = cond (same_group (row p).group g) (becomes (field r p)) stays

-- the floats of an A record: 6121h, 6123h, 6124h
abbrev pub scaling_in : List ℕ → Scaling
scaling_in r =
    record {
      low = of_bits binary32 (number_at 1 4 r);
      high = of_bits binary32 (number_at 5 4 r);
      offset = of_bits binary32 (number_at 9 4 r);
    }
