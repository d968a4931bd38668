-- `sentences::put_complaint` meets its contract: the sentence, with the usage behind it where nothing was given, and both fit.
use native.Mathlib.Omega.{arith}
use Rattle.text.proofs.Putting.{reads_as, both, within, front}
use Rattle.answers.proofs.Lengths.{length_complaint}
use Rattle.answers.proofs.Chosen.{too_long_lem, with_usage, sentence_alone}
use Rattle.answers.proofs.sentences.put_complaint.Goals as goal

pub returns-then-given-gt4096 : goal.returns-then-given-gt4096
returns-then-given-gt4096 c =
    let all = reads_as c.put_words.ensures (too_long_lem c.args.number c.args.given c.if-given-gt4096.true) in
    record { puts = all; text = front all (omega (arith, length_complaint c.args.number c.args.given, c.requires)); within = within all (omega arith) }

pub returns-then-given-eq0 : goal.returns-then-given-eq0
returns-then-given-eq0 c =
    let said = with_usage c.args.number c.args.given c.if-given-gt4096.false c.if-given-eq0.true in
    let all = reads_as (both c.put_sentence-behind.ensures c.put_words-then-given-eq0.ensures) said in
    record { puts = all; text = front all (omega (arith, length_complaint c.args.number c.args.given, c.requires)); within = within all (omega arith) }

pub returns : goal.returns
returns c =
    let all = reads_as c.put_sentence-behind.ensures (sentence_alone c.args.number c.args.given c.if-given-gt4096.false c.if-given-eq0.false) in
    record { puts = all; text = front all (omega (arith, length_complaint c.args.number c.args.given, c.requires)); within = within all (omega arith) }
