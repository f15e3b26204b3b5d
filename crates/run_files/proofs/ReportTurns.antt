-- Path by path: two lines more were read, or one of them is the first that lacks its form.
use Rattle.std.proofs.Common.{◌≡◌, ◌≢◌, ◌+◌, ◌*◌, ℕ, List, [], ◌∷◌, ◌++◌, Some, None, Option, length, decimal, sym, ap, ap₂, subst, ◌∙◌, length-append, arith}
use Rattle.std.proofs.lemmas.Option.{none-some}
use Rattle.pd_base.specs.declared.fault.Direction.TheVariants.{Rise}
use Rattle.netlist.specs.Circuit.{Circuit}
use Rattle.netlist.specs.Lawful.{IsCircuit}
use Rattle.netlist.specs.Names.{name_at}
use Rattle.runs.specs.declared.run.ListedPath.{ListedPath}
use Rattle.runs.specs.declared.run.Verdict.{Verdict}
use Rattle.runs.specs.Lawful.{Named, named_with, none_named}
use Rattle.text_pieces.specs.Tokens.{comma}
use Rattle.text_pieces.specs.LineFiles.{lines_text, IsWhole, LacksForm}
use Rattle.text_pieces.specs.Cuts.{pieces}
use Rattle.text_pieces.specs.Reads.{Reads}
use Rattle.text_pieces.proofs.ReadLines.{none_split, none_told, one_more, unread, IsReadSoFar, SplitsLine}
use Rattle.run_files.specs.ReportForm.{fall_line, line_fields, lines_told, report_form, report_start, rise_line, IsNextVerdict, IsTellable, ReportLine, ReportState}
use Rattle.run_files.specs.ReportText.{steps_text}
use Rattle.run_files.proofs.ReportLines.{behind_rise, between, lines_count, lines_more, no_fall, number_after, one_fall, one_line, rise_reads, ReadsFall}

module _ (c : Circuit) (circuit : IsCircuit c) (text : List ℕ) where
  -- nothing is read, since the line behind so many is the first that lacks its form
  abbrev pub IsBadAt : ℕ → Type 0
  IsBadAt number =
      Reads (lines_text (report_form c) report_start) (IsWhole (report_form c) report_start) text None
      × ((above : ℕ) × (number ≡ above + 1) × LacksForm (report_form c) report_start text above)

  abbrev pub SoFar : List ReportLine → ReportState → List ℕ → Type 0
  SoFar items state rest = IsReadSoFar (report_form c) report_start text items state rest

  module _ (paths : List ListedPath) (number : ℕ) (named : Named) (rest : List ℕ) (so_far : SoFar (lines_told paths) (between number named) rest) where
    -- the number of the path is told by those before it
    number_is : number ≡ length paths + 1
    number_is =
        omega (arith, ap (λ (state : ReportState). state.number) so_far.left_by, number_after c 1 none_named paths)

    pub no_line_there : rest ≢ [] → SplitsLine rest None → IsBadAt (2 * number)
    no_line_there some splits =
        let is = unread (report_form c) report_start text (lines_told paths) (between number named) rest so_far (λ empty ends. some empty)
        (none_split (report_form c) (between number named) (one_line c circuit (between number named)) rest splits) in
        (is.0, (length (lines_told paths) + 1, omega (arith, number_is, lines_count paths), is.1))

    -- what a line for the rising transition is read as
    abbrev pub ReadsRise : List ℕ → Option ReportLine → Type 0
    ReadsRise line read =
        Reads (line_fields c number Rise) (λ told. IsTellable c told.path told.length × IsNextVerdict named told.verdict) (pieces comma line) read

    pub no_rise_there : rest ≢ [] → (line behind : List ℕ) → SplitsLine rest (Some (line, behind)) → ReadsRise line None → IsBadAt (2 * number)
    no_rise_there some line behind splits reads =
        let is = unread (report_form c) report_start text (lines_told paths) (between number named) rest so_far (λ empty ends. some empty)
        (none_told (report_form c) (between number named) (one_line c circuit (between number named)) rest line behind splits
        (rise_reads c circuit number named line None reads)) in
        (is.0, (length (lines_told paths) + 1, omega (arith, number_is, lines_count paths), is.1))

    module _ (line behind : List ℕ) (splits : SplitsLine rest (Some (line, behind))) (rise : ReportLine) (reads : ReadsRise line (Some rise))
        (now : Named) (named_now : now ≡ named_with named rise.verdict) where
      rise_read : SoFar (lines_told paths ++ rise ∷ []) (behind_rise number rise now) behind
      rise_read =
          subst (λ (n : Named). SoFar (lines_told paths ++ rise ∷ []) (behind_rise number rise n) behind) (sym named_now)
          (one_more (report_form c) report_start text (lines_told paths) (between number named) (one_line c circuit (between number named))
          rest line behind rise so_far splits (rise_reads c circuit number named line (Some rise) reads))

      long : length (lines_told paths ++ rise ∷ []) ≡ 2 * length paths + 1
      long = omega (arith, length-append (lines_told paths) (rise ∷ []), lines_count paths)

      pub no_second_there : SplitsLine behind None → IsBadAt (2 * number + 1)
      no_second_there ends =
          let is = unread (report_form c) report_start text (lines_told paths ++ rise ∷ []) (behind_rise number rise now) behind rise_read
          (λ empty none. none-some rise (sym none))
          (none_split (report_form c) (behind_rise number rise now) (one_line c circuit (behind_rise number rise now)) behind ends) in
          (is.0, (length (lines_told paths ++ rise ∷ []) + 1, omega (arith, number_is, long), is.1))

      module _ (fields : List ℕ × List ℕ × List ℕ)
          (are : fields ≡ (decimal rise.length, name_at c rise.path.source.0, steps_text c rise.path.steps))
          (other last : List ℕ) (cut : SplitsLine behind (Some (other, last))) where
        pub no_fall_there : ReadsFall c circuit number now rise reads.found.0.0 other fields are None → IsBadAt (2 * number + 1)
        no_fall_there falls =
            let is = unread (report_form c) report_start text (lines_told paths ++ rise ∷ []) (behind_rise number rise now) behind rise_read
            (λ empty none. none-some rise (sym none))
            (none_told (report_form c) (behind_rise number rise now) (one_line c circuit (behind_rise number rise now)) behind other last cut
            (no_fall c circuit number now rise reads.found.0.0 other fields are falls)) in
            (is.0, (length (lines_told paths ++ rise ∷ []) + 1, omega (arith, number_is, long), is.1))

        pub one_path : (verdict : Verdict) → ReadsFall c circuit number now rise reads.found.0.0 other fields are (Some verdict)
            → (listed : ListedPath) → rise_line listed ≡ rise → fall_line listed ≡ record { path = rise.path; length = rise.length; verdict = verdict }
            → (new : List ListedPath) → new ≡ paths ++ listed ∷ [] → (then : Named) → then ≡ named_with now verdict
            → SoFar (lines_told new) (between (number + 1) then) last
        one_path verdict falls listed is_rise is_fall new pushed then named_then =
            let read =
            one_more (report_form c) report_start text (lines_told paths ++ rise ∷ []) (behind_rise number rise now)
            (one_line c circuit (behind_rise number rise now)) behind other last
            (record { path = rise.path; length = rise.length; verdict = verdict }) rise_read cut
            (one_fall c circuit number now rise reads.found.0.0 other fields are verdict falls) in
            let lines : (lines_told paths ++ rise ∷ []) ++ (record { path = rise.path; length = rise.length; verdict = verdict }) ∷ [] ≡ lines_told new =
            ap₂ (λ (a b : ReportLine). (lines_told paths ++ a ∷ []) ++ b ∷ []) (sym is_rise) (sym is_fall)
            ∙ sym (lines_more paths listed) ∙ ap lines_told (sym pushed) in
            subst (λ (n : Named). SoFar (lines_told new) (between (number + 1) n) last) (sym named_then)
            (subst (λ (items : List ReportLine). SoFar items (between (number + 1) (named_with now verdict)) last) lines read)
