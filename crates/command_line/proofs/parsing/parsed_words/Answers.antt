-- The parse of accepted words.
use Rattle.std.proofs.Common.{◌≡◌, ◌∙◌, ◌∷◌, ap, ap₂, subst, sym}
use Rattle.std.proofs.lemmas.Result.{IfOk-weaker, err_from_is_err_and}
use Rattle.clap.specs.Words.{found_of, is_simple, matches_of, rows_of, takes}
use Rattle.command_line.specs.ClapWords.{words_app}
use Rattle.command_line.specs.Commands.{bytes_of_words}
use Rattle.command_line.specs.Taken.{form_seen}
use Rattle.command_line.proofs.Accepting.{words_are}
use Rattle.command_line.proofs.Items.{all_said, nothing_said, words_of}
use Rattle.command_line.proofs.Matches.{Has, has_matches, is_taken, texts_found_are}
use Rattle.command_line.proofs.Rules.{simple_app}
use Rattle.command_line.proofs.parsing.parsed_words.Goals as goal

pub returns-in_err-matches-clause-memory : goal.returns-in_err-matches-clause-memory
returns-in_err-matches-clause-memory c given gives =
    let are = words_are (form_seen c.args.form) c.requires (bytes_of_words c.args.words.now) given gives in
    let e = err_from_is_err_and c.from_residual-in_err-matches.result c.from_residual-in_err-matches.ensures.1 in
    rw (e.1, e.2) (c.in_err-matches.ensures.passes
    (ap₂ takes c.in_ok-parser.ensures.parser are.2 ∙ is_taken c.args.form.options.now are.0 are.1 are.3))

pub returns-clause-parsed : goal.returns-clause-parsed
returns-clause-parsed c given gives =
    let are = words_are (form_seen c.args.form) c.requires (bytes_of_words c.args.words.now) given gives in
    let matches_are : rows_of (found_of c.in_ok-matches.matches) ≡ matches_of (words_app c.args.form.options.now) (are.0 ∷ words_of are.1) =
    (c.in_ok-matches.ensures.matches (ap is_simple c.in_ok-parser.ensures.parser ∙ simple_app c.args.form.options.now)).0 ∙ ap₂ matches_of c.in_ok-parser.ensures.parser are.2 in
    let has = subst (Has (all_said nothing_said are.1)) (sym matches_are) (has_matches c.args.form.options.now are.0 are.1 are.3) in
    IfOk-weaker c.values_of.result _ _ (λ parsed is. is ∙ texts_found_are (found_of c.in_ok-matches.matches) _ given has are.4) c.values_of.ensures.values
