-- csv's text of a row is the plain one, fields joined by commas, where no field calls for quotes.
use Rattle.std.proofs.Common.{◌≡◌, ◌≢◌, ℕ, ◌≤◌, false, Option, Some, List, [], ◌∷◌, ◌++◌, Vec, length, flat_map, refl, ap, ◌∙◌, arith}
use Rattle.std.specs.declared.alloc.Global.{Global}
use Rattle.std.specs.Io.KnownBytes.{Appends}
use Rattle.std.specs.List.{AllByRecursion}
use Rattle.std.proofs.lemmas.Bool.Decides.{nat_tests}
use Rattle.std.proofs.lemmas.List.Elements.{All-head, All-tail}
use Rattle.csv.specs.declared.writer.QuoteStyle.TheVariants as style
use Rattle.csv.specs.declared.writer.Writer.{Writer}
use Rattle.csv.specs.Quoting.{needs_byte}
use Rattle.csv.specs.Writing.{default_writer, field_text, fields_text, fields_written, has_written, is_blank, needs_quotes, row_text, text_written, writer_setup}
use Rattle.text_pieces.specs.Tokens.{comma}
use Rattle.text_pieces.proofs.Cuts.{join_with_byte-cons}
use Rattle.run_files.specs.PlainTexts.{IsPlain, IsPlainByte}
use Rattle.run_files.specs.ReportRows.{IsBetweenRows, rows_text}
use Rattle.run_files.specs.ReportText.{row_line}

-- a plain byte passes csv's test
plain_byte_passes : (byte : ℕ) → IsPlainByte byte → needs_byte default_writer byte ≡ false
plain_byte_passes byte plain = grind (arith, nat_tests, plain.no_comma, plain.no_quote, plain.no_return, plain.no_feed)

-- so does a plain text
plain_passes : (text : List ℕ) → IsPlain text → needs_quotes default_writer text ≡ false
plain_passes [] plain = refl
plain_passes (byte ∷ text) plain =
    rw (plain_byte_passes byte (All-head IsPlainByte byte text plain)) (plain_passes text (All-tail IsPlainByte byte text plain))

-- csv writes a plain text as it is
plain_field : (text : List ℕ) → IsPlain text → field_text default_writer text ≡ text
plain_field text plain = rw (plain_passes text plain) refl

-- and further plain fields, each behind a comma
plain_fields : (fields : List (List ℕ)) → AllByRecursion IsPlain fields → fields_text default_writer fields ≡ flat_map (λ text. comma ∷ text) fields
unfolding fields_text
plain_fields [] plain = refl
plain_fields (field ∷ fields) plain = rw (plain_field field plain.0, plain_fields fields plain.1) refl

-- csv's text of a row of plain fields, of which there is a second
two_plain : (first next : List ℕ) (rest : List (List ℕ)) → AllByRecursion IsPlain (first ∷ next ∷ rest)
    → row_text default_writer (first ∷ next ∷ rest) ≡ row_line (first ∷ next ∷ rest)
unfolding is_blank
two_plain first next rest plain =
    rw (plain_field first plain.0, plain_fields (next ∷ rest) plain.1, join_with_byte-cons comma first (next ∷ rest)) refl

-- csv's text of a row of two or more plain fields is the fields joined by commas, ended by LF
plain_row : (fields : List (List ℕ)) → 2 ≤ length fields → AllByRecursion IsPlain fields → row_text default_writer fields ≡ row_line fields
plain_row [] several plain = absurd (omega arith)
plain_row (first ∷ []) several plain = absurd (omega arith)
plain_row (first ∷ next ∷ rest) several plain = two_plain first next rest plain

-- what a vector holds, as csv asks it
abbrev pub vec_contents : Vec ℕ Global → Option (List ℕ)
vec_contents v = Some v.items

-- what csv's writer says of a row, at a report's writer between two rows
pub row_written : (old new : Writer (Vec ℕ Global)) (fields : List (List ℕ)) → IsBetweenRows old → 2 ≤ length fields → AllByRecursion IsPlain fields
    → (fields_written old ≡ 0 → has_written old ≡ false → (writer_setup old).style ≢ style.NonNumeric → Appends (text_written vec_contents old) (text_written vec_contents new) (row_text (writer_setup old) fields))
    → rows_text new ≡ rows_text old ++ row_line fields
row_written old new fields ready several plain written =
    let by_need : (writer_setup old).style ≢ style.NonNumeric = rw ready.defaults (λ e. cc e) in
    written ready.no_fields ready.no_bytes by_need
    ∙ ap (λ (text : List ℕ). rows_text old ++ text) (ap (λ setup. row_text setup fields) ready.defaults ∙ plain_row fields several plain)
