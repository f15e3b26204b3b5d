-- Each heading stands where it is due, or is the first that is missing.
use Rattle.std.proofs.Common.{◌≡◌, ◌∙◌, ◌++◌, List, ℕ, [], ◌∷◌, codes, ap}
use Rattle.text_pieces.specs.Tokens.{line}
use Rattle.text_pieces.proofs.Headings.{heading_missing, missing_behind}
use Rattle.run_files.specs.TestsText.{names_text, observed_names, tests_form}
use Rattle.run_files.proofs.tests_reading.read_headings.Goals as goal

pub returns-in_default-clause-reads : goal.returns-in_default-clause-reads
returns-in_default-clause-reads c =
    let net = c.args.net.now in
    let lacks = heading_missing (tests_form net) 1 (codes "pdfgen tests 1")
    (names_text (codes "sources") net.sources ∷ names_text (codes "observed") (observed_names net) ∷ []) c.args.bytes.now c.in_default.ensures in
    (lacks.none, lacks.bad)

pub returns-in_default-text_behind-clause-reads : goal.returns-in_default-text_behind-clause-reads
returns-in_default-text_behind-clause-reads c =
    let net = c.args.net.now in
    let sources : c.as_slice.result.now ≡ line (names_text (codes "sources") net.sources) =
    c.as_slice.ensures.value ∙ c.in_ok-push_sources.ensures ∙ ap (λ (front : List ℕ). front ++ line (names_text (codes "sources") net.sources)) c.new-sources.ensures.items in
    let lacks = missing_behind (tests_form net) 1 (codes "pdfgen tests 1")
    (names_text (codes "sources") net.sources ∷ names_text (codes "observed") (observed_names net) ∷ []) c.args.bytes.now c.in-Some.behind.now 1
    c.in-Some.ensures.found.1
    (heading_missing (tests_form net) 1 (names_text (codes "sources") net.sources) (names_text (codes "observed") (observed_names net) ∷ [])
    c.in-Some.behind.now (rw sources at c.in_default-text_behind.ensures)) in
    (lacks.none, lacks.bad)

pub returns-in_default-text_behind-2-clause-reads : goal.returns-in_default-text_behind-2-clause-reads
returns-in_default-text_behind-2-clause-reads c =
    let net = c.args.net.now in
    let sources : c.as_slice.result.now ≡ line (names_text (codes "sources") net.sources) =
    c.as_slice.ensures.value ∙ c.in_ok-push_sources.ensures ∙ ap (λ (front : List ℕ). front ++ line (names_text (codes "sources") net.sources)) c.new-sources.ensures.items in
    let observed : c.as_slice-2.result.now ≡ line (names_text (codes "observed") (observed_names net)) =
    c.as_slice-2.ensures.value ∙ c.in_ok-push_observed.ensures ∙ ap (λ (front : List ℕ). front ++ line (names_text (codes "observed") (observed_names net))) c.new-observed.ensures.items in
    let lacks = missing_behind (tests_form net) 1 (codes "pdfgen tests 1")
    (names_text (codes "sources") net.sources ∷ names_text (codes "observed") (observed_names net) ∷ []) c.args.bytes.now c.in-Some.behind.now 2
    c.in-Some.ensures.found.1
    (missing_behind (tests_form net) 1 (names_text (codes "sources") net.sources) (names_text (codes "observed") (observed_names net) ∷ [])
    c.in-Some.behind.now c.in-Some-text_behind.behind.now 1 (rw sources at c.in-Some-text_behind.ensures.found.1)
    (heading_missing (tests_form net) 1 (names_text (codes "observed") (observed_names net)) []
    c.in-Some-text_behind.behind.now (rw observed at c.in_default-text_behind-2.ensures))) in
    (lacks.none, lacks.bad)
