-- The forms that 1010h and 1011h share. Assumes nothing.
use Rattle.std.specs.Prelude.{[], ◌∷◌}
use Rattle.model.specs.declared.Groups.{Groups}
use Rattle.model.specs.declared.Groups.TheVariants.{Both, OnlyC, OnlyA}
use Rattle.model.specs.declared.Entry.{Entry}
use Rattle.model.specs.Dictionary.{Object, several, ◌holds◌}

-- a record of a word for both groups, and of one for each
abbrev pub words_of : (Groups → Entry) → Object
words_of word = several 3 (1 holds word Both ∷ 2 holds word OnlyC ∷ 3 holds word OnlyA ∷ [])
