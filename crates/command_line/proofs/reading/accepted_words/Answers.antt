-- clap has what accepted words give.
use Rattle.std.proofs.Common.{◌∙◌, Ok, ap, sym, subst}
use Rattle.command_line.specs.Commands.{bytes_of_words}
use Rattle.command_line.specs.Reading.{GivesWords, WordsForm}
use Rattle.command_line.proofs.Asking.{gives_words, texts_accepted}
use Rattle.command_line.proofs.reading.accepted_words.Goals as goal

-- accepted words are refused for want of memory alone
pub refused_memory-requires : goal.refused_memory-requires
refused_memory-requires g c =
    let accepted = c.in_ok-judge_words.ensures.accepts in
    let form = g.F.CommandForm.form in
    let gives = gives_words form.words (bytes_of_words c.args.words.now) (bytes_of_words c.args.later.now) c.requires.0 accepted.given c.requires.1 accepted.taken in
    c.in-Err.ensures.memory accepted.given
    (subst (λ (f : WordsForm). GivesWords f (bytes_of_words c.args.words.now) accepted.given) (sym c.words.ensures) gives)

pub returns-in-Ok-clause-parsed : goal.returns-in-Ok-clause-parsed
returns-in-Ok-clause-parsed g c =
    let accepted = c.in_ok-judge_words.ensures.accepts in
    let form = g.F.CommandForm.form in
    let gives = gives_words form.words (bytes_of_words c.args.words.now) (bytes_of_words c.args.later.now) c.requires.0 accepted.given c.requires.1 accepted.taken in
    let same = c.in-Ok.ensures.parsed accepted.given
    (subst (λ (f : WordsForm). GivesWords f (bytes_of_words c.args.words.now) accepted.given) (sym c.words.ensures) gives) in
    texts_accepted form (bytes_of_words c.args.later.now) accepted ∙ ap Ok (sym same)
