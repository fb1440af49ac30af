-- A change of the settings in two steps, as code makes it: one parameter is set, and validity bytes are set to 0. Assumes nothing.
use Rattle.std.specs.Prelude.{Bool, cond}
use Rattle.model.specs.declared.Value.{Value}
use Rattle.model.specs.declared.Parameter.{Parameter}
use Rattle.model.specs.declared.Parameter.TheVariants.{P13FE, P51FE}
use Rattle.model.specs.declared.Settings.{Settings}
use Rattle.model.specs.Settings.{same, Now, stays, becomes, altered}
use Rattle.model.specs.Changes.{revoked}

-- p becomes v, and no other parameter is touched
abbrev pub only : Parameter → Value → Parameter → Now
only p v q = cond (same q p) (becomes v) stays

unfoldable pub put : Parameter → Value → Settings → Settings
put p v k = altered (only p v) k

-- 13FEh becomes 0 where c holds, and 51FEh where a holds
abbrev pub cleared : Bool → Bool → Parameter → Now
cleared c a q = cond (same q P13FE) (cond c revoked stays) (cond (same q P51FE) (cond a revoked stays) stays)

unfoldable pub revoke : Bool → Bool → Settings → Settings
revoke c a k = altered (cleared c a) k
