-- `dictionary::objects::find` meets its contract: 1010h and 1011h are the words made by their constructors. Assumes nothing.
use Rattle.std.proofs.Common.{rules}
use Rattle.model.specs.declared.Entry.TheVariants.{SaveWord, LoadWord}
use Rattle.model.specs.Dictionary.{find}
use Rattle.dictionary.proofs.objects.find.Goals as goal

pub returns-in-4112 : goal.returns-in-4112
unfolding find
returns-in-4112 c = rw c.in-4112.is (c.words.ensures SaveWord (λ gs e made. search rules))

pub returns-in-4113 : goal.returns-in-4113
unfolding find
returns-in-4113 c = rw c.in-4113.is (c.words-in-4113.ensures LoadWord (λ gs e made. search rules))
