-- The parameters are judged as decoded. Assumes nothing.
use mathlib.Core.Path.{◌∙◌}
use Rattle.model.specs.Settings.{blank}
use Rattle.records.proofs.Sound.{sound_in}
use Rattle.records.proofs.codec.Codec.is_sound_in.Goals as goal

pub returns : goal.returns
returns g c = rw (c.decode.ensures blank) at (c.is_sound.ensures blank) ∙ sound_in g.Self.Parameters.group c.args.r.now blank
