-- `sentences::put_sentence` meets its contract: each number has its sentence.
use mathlib.Core.Path.{sym, ap}
use Rattle.text.proofs.Putting.{reads_as}
use Rattle.answers.specs.Sentences.{sentence}
use Rattle.answers.proofs.sentences.put_sentence.Goals as goal

pub returns-in-1 : goal.returns-in-1
unfolding sentence
returns-in-1 c = reads_as c.put_words.ensures (ap sentence (sym c.in-1.is))

pub returns-in-2 : goal.returns-in-2
unfolding sentence
returns-in-2 c = reads_as c.put_words-in-2.ensures (ap sentence (sym c.in-2.is))

pub returns-in-3 : goal.returns-in-3
unfolding sentence
returns-in-3 c = reads_as c.put_words-in-3.ensures (ap sentence (sym c.in-3.is))

pub returns-in-4 : goal.returns-in-4
unfolding sentence
returns-in-4 c = reads_as c.put_words-in-4.ensures (ap sentence (sym c.in-4.is))

pub returns-in-5 : goal.returns-in-5
unfolding sentence
returns-in-5 c = reads_as c.put_words-in-5.ensures (ap sentence (sym c.in-5.is))

pub returns-in-7 : goal.returns-in-7
unfolding sentence
returns-in-7 c = reads_as c.put_words-in-7.ensures (ap sentence (sym c.in-7.is))
