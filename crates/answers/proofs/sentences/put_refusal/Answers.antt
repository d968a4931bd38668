-- `sentences::put_refusal` meets its contract: its five parts, one behind the other.
use mathlib.Core.Path.{ap}
use Rattle.text.specs.Text.{decimal}
use Rattle.text.proofs.Putting.{both, reads_as}
use Rattle.answers.specs.Sentences.{refusal}
use Rattle.answers.proofs.sentences.put_refusal.Goals as goal

pub returns : goal.returns
unfolding refusal
returns c =
    let number = reads_as c.put_decimal-behind_number.ensures (ap decimal c.from.ensures) in
    both (both (both (both c.put_words-behind_words.ensures number) c.put_words-behind_colon.ensures) c.put_sentence-behind_sentence.ensures) c.put_words.ensures
