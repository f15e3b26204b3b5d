-- The rows of a text, as csv reads them: each takes a byte or more, and what comes after the same rows is the same.
use Rattle.std.proofs.Common.{◌≡◌, inl, inr, ⊎_elim, ◌⊎◌, ℕ, ◌+◌, ◌<◌, ◌≤◌, Bool, true, false, cond, eqb, List, [], ◌∷◌, ◌++◌, length, Some, None, refl, sym, ap, subst, ◌∙◌, arith, true≢false, length-append}
use Rattle.std.proofs.lemmas.List.{append-nil}
use Rattle.csv.specs.Machine.{Read, after_end, ends_at_end, ends_with, field_after, fields_after, in_field, is_end, next_record, start_field, start_record, step}
use Rattle.csv.specs.Reading.{AreRecords, Reached, default_config, strip_bom}
use Rattle.csv.specs.declared.parser.Action.{Action}
use Rattle.csv.specs.declared.parser.Action.TheVariants as act
use Rattle.csv.specs.declared.parser.Config.{Config}
use Rattle.csv.specs.declared.parser.Terminator.TheVariants as term
use Rattle.csv.specs.declared.parser.State.{State}
use Rattle.csv.specs.declared.parser.State.TheVariants as st
use Rattle.delay_annotation.specs.DelayFile.{AreAllRows, AreFirstRows, Row}

-- where a byte ends a record, the text may end behind it
abbrev EndsWell : State × Action → Type 0
EndsWell next = is_end next.1 ≡ true → ends_at_end next.0 ≡ false

-- a choice of two that do
either_ends : (b : Bool) (x y : State × Action) → EndsWell x → EndsWell y → EndsWell (cond b x y)
either_ends true x y is other = is
either_ends false x y is other = other

-- a byte that ends no record
ends_none : (x : State × Action) → is_end x.1 ≡ false → EndsWell x
ends_none x none ends = absurd (true≢false (sym ends ∙ none))

-- the end of a record
ends_record : (b : Bool) → EndsWell (cond b st.AfterCr st.StartRecord, act.EndRecord)
ends_record true ends = refl
ends_record false ends = refl

in_field_ends : (c : ℕ) → EndsWell (in_field default_config c)
in_field_ends c =
    either_ends (eqb c 44) (st.StartField, act.EndField)
    (cond (ends_with term.CRLF c) (after_end term.CRLF c, act.EndRecord) (st.InField, act.Copy))
    (ends_none (st.StartField, act.EndField) refl)
    (either_ends (ends_with term.CRLF c) (after_end term.CRLF c, act.EndRecord) (st.InField, act.Copy) (ends_record (eqb c 13))
    (ends_none (st.InField, act.Copy) refl))

start_field_ends : (c : ℕ) → EndsWell (start_field default_config c)
start_field_ends c =
    either_ends (eqb c 34) (st.InQuoted, act.Skip) (in_field default_config c) (ends_none (st.InQuoted, act.Skip) refl)
    (in_field_ends c)

start_record_ends : (c : ℕ) → EndsWell (start_record default_config c)
start_record_ends c =
    either_ends (ends_with term.CRLF c) (st.StartRecord, act.Skip) (start_field default_config c)
    (ends_none (st.StartRecord, act.Skip) refl) (start_field_ends c)

step_ends : (s : State) (c : ℕ) → EndsWell (step default_config s c)
step_ends st.StartRecord c = start_record_ends c
step_ends st.StartField c = start_field_ends c
step_ends st.InField c = in_field_ends c
step_ends st.InQuoted c =
    either_ends (eqb c 34) (st.AfterQuote, act.Skip) (st.InQuoted, act.Copy) (ends_none (st.AfterQuote, act.Skip) refl)
    (ends_none (st.InQuoted, act.Copy) refl)
step_ends st.InEscape c = ends_none (st.InQuoted, act.Copy) refl
step_ends st.AfterQuote c =
    either_ends (eqb c 34) (st.InQuoted, act.Copy) (in_field default_config c) (ends_none (st.InQuoted, act.Copy) refl)
    (in_field_ends c)
step_ends st.InComment c =
    either_ends (eqb c 10) (st.StartRecord, act.Skip) (st.InComment, act.Skip) (ends_none (st.StartRecord, act.Skip) refl)
    (ends_none (st.InComment, act.Skip) refl)
step_ends st.AfterCr c =
    either_ends (eqb c 10) (st.StartRecord, act.Skip) (start_record default_config c) (ends_none (st.StartRecord, act.Skip) refl)
    (start_record_ends c)

-- what stands after a record: the text may end there, and it is no longer than before
record IsBehind (size : ℕ) (read : Read) : Type 0 where
  may_end : ends_at_end read.1 ≡ false
  within : length read.2 ≤ size

-- where there is a read, it is this one
some_read : (P : Read → Type 0) (a b : Read) → Some a ≡ Some b → P a → P b
some_read P a b same holds = subst P (cc same) holds

behind : (s : State) (fields : List (List ℕ)) (field xs : List ℕ) (read : Read)
    → next_record default_config s fields field xs ≡ Some read → IsBehind (length xs) read
unfolding next_record
behind s fields field [] read is = by (ends_at_end s) is
  where
    by : (b : Bool) → cond b (Some (fields ++ (field ∷ []), st.StartRecord, [])) None ≡ Some read → IsBehind 0 read
    by true same = some_read (IsBehind 0) (fields ++ (field ∷ []), st.StartRecord, []) read same
        (record { may_end = refl; within = omega arith })
    by false same = cc same
behind s fields field (c ∷ rest) read is =
    by (is_end (step default_config s c).1) refl is (behind (step default_config s c).0 _ _ rest read)
  where
    fields_next : List (List ℕ)
    fields_next = fields_after (step default_config s c).1 fields field

    field_next : List ℕ
    field_next = field_after (step default_config s c).1 c field

    by : (b : Bool) → is_end (step default_config s c).1 ≡ b
        → cond b (Some (fields_next, (step default_config s c).0, rest))
        (next_record default_config (step default_config s c).0 fields_next field_next rest)
        ≡ Some read
        → (next_record default_config (step default_config s c).0 fields_next field_next rest ≡ Some read → IsBehind (length rest) read)
        → IsBehind (length (c ∷ rest)) read
    by true ends same more =
        some_read (IsBehind (length (c ∷ rest))) (fields_next, (step default_config s c).0, rest) read same
        (record { may_end = step_ends s c ends; within = omega arith })
    by false ends same more =
        let later = more same in record { may_end = later.may_end; within = omega (arith, later.within) }

-- a record takes a byte or more, where the text may end before it
shorter : (s : State) (xs : List ℕ) (read : Read) → ends_at_end s ≡ false
    → next_record default_config s [] [] xs ≡ Some read → length read.2 < length xs
unfolding next_record
shorter s [] read end is = absurd (none_some (ap (λ b. cond b (Some ([] ∷ [], st.StartRecord, [])) None) (sym end) ∙ is))
  where
    none_some : None ≡ Some read → ⊥
    none_some same = cc same
shorter s (c ∷ rest) read end is = by (is_end (step default_config s c).1) is
  where
    by : (b : Bool)
        → cond b (Some (fields_after (step default_config s c).1 [] [], (step default_config s c).0, rest))
        (next_record default_config (step default_config s c).0 (fields_after (step default_config s c).1 [] []) (field_after (step default_config s c).1 c []) rest)
        ≡ Some read → length read.2 < length (c ∷ rest)
    by true same = some_read (λ r. length r.2 < length (c ∷ rest)) _ read same (omega arith)
    by false same = let more = behind (step default_config s c).0 _ _ rest read same in omega (arith, more.within)

-- so there are no more records than bytes
rows_fit : (s s2 : State) (xs ys : List ℕ) (rows : List Row) → ends_at_end s ≡ false
    → Reached default_config s xs rows s2 ys → length rows + length ys ≤ length xs
unfolding Reached
rows_fit s s2 xs ys [] end reached = omega (arith, ap (λ (l : List ℕ). length l) reached.1)
rows_fit s s2 xs ys (row ∷ rows) end (read, is, same, reached) =
    let after = behind s [] [] xs read is in
    omega (arith, rows_fit read.1 s2 read.2 ys rows after.may_end reached, shorter s xs read end is)

-- a text without its mark is no longer
strip_fits : (bytes : List ℕ) → length (strip_bom bytes) ≤ length bytes
unfolding strip_bom
strip_fits [] = omega arith
strip_fits (a ∷ []) = omega arith
strip_fits (a ∷ b ∷ []) = omega arith
strip_fits (a ∷ b ∷ c ∷ rest) = by _
  where
    by : (mark : Bool) → length (cond mark rest (a ∷ b ∷ c ∷ rest)) ≤ length (a ∷ b ∷ c ∷ rest)
    by true = omega arith
    by false = omega arith

-- a file has no more rows than bytes
pub few_rows : (bytes : List ℕ) (rows : List Row) → AreFirstRows bytes rows → length rows ≤ length bytes
few_rows bytes rows (after, rest, reached) =
    omega (arith, rows_fit st.StartRecord after (strip_bom bytes) rest rows refl reached, strip_fits bytes)

-- rows that were read are the first of all rows
reached_front : (cfg : Config) (s s2 : State) (xs ys : List ℕ) (rows all : List Row) → AreRecords cfg s xs all
    → Reached cfg s xs rows s2 ys → (rest : List Row) × (rows ++ rest ≡ all)
unfolding Reached
reached_front cfg s s2 xs ys [] all whole reached = (all, refl)
reached_front cfg s s2 xs ys (row ∷ rows) [] (s3, zs, (at, left), none) (read, is, same, reached) =
    absurd (none_some (sym none ∙ ap (λ t. next_record cfg t [] [] zs) (sym at) ∙ ap (next_record cfg s [] []) (sym left) ∙ is))
  where
    none_some : None ≡ Some read → ⊥
    none_some same = cc same
reached_front cfg s s2 xs ys (row ∷ rows) (first ∷ all) (s3, zs, (other, is_other, same_other, more), none) (read, is, same, reached) =
    let alike : other ≡ read = cc (sym is_other ∙ is) in
    let whole = subst (λ (r : Read). Reached cfg r.1 r.2 all s3 zs) alike more in
    let front = reached_front cfg read.1 s2 read.2 ys rows all (s3, zs, whole, none) reached in
    let heads : row ≡ first = same ∙ sym (ap (λ (r : Read). r.0) alike) ∙ sym same_other in
    (front.0, ap (λ r. r ∷ (rows ++ front.0)) heads ∙ ap (λ more. first ∷ more) front.1)

-- of two lists of rows that were read, one is the front of the other
reached_fronts : (cfg : Config) (s s2 s3 : State) (xs ys zs : List ℕ) (rows others : List Row) → Reached cfg s xs rows s2 ys
    → Reached cfg s xs others s3 zs
    → ((rest : List Row) × (rows ++ rest ≡ others)) ⊎ ((rest : List Row) × (others ++ rest ≡ rows))
unfolding Reached
reached_fronts cfg s s2 s3 xs ys zs [] others reached other = inl (others, refl)
reached_fronts cfg s s2 s3 xs ys zs (row ∷ rows) [] reached other = inr (row ∷ rows, refl)
reached_fronts cfg s s2 s3 xs ys zs (row ∷ rows) (first ∷ others) (read, is, same, reached) (other, is_other, same_other, more) =
    let alike : other ≡ read = cc (sym is_other ∙ is) in
    let heads : row ≡ first = same ∙ sym (ap (λ (r : Read). r.0) alike) ∙ sym same_other in
    let again = subst (λ (r : Read). Reached cfg r.1 r.2 others s3 zs) alike more in
    ⊎_elim
    (λ (rest, front). inl (rest, ap (λ r. r ∷ (rows ++ rest)) heads ∙ ap (λ more. first ∷ more) front))
    (λ (rest, front). inr (rest, ap (λ r. r ∷ (others ++ rest)) (sym heads) ∙ ap (λ more. row ∷ more) front))
    (reached_fronts cfg read.1 s2 s3 read.2 ys zs rows others reached again)

-- first rows of a file are the front of all its rows
pub front_of_all : (bytes : List ℕ) (rows all : List Row) → AreAllRows bytes all → AreFirstRows bytes rows
    → (rest : List Row) × (rows ++ rest ≡ all)
front_of_all bytes rows all whole (after, left, reached) =
    reached_front default_config st.StartRecord after (strip_bom bytes) left rows all whole reached

-- of two lists of first rows one is the front of the other
pub fronts : (bytes : List ℕ) (rows others : List Row) → AreFirstRows bytes rows → AreFirstRows bytes others
    → ((rest : List Row) × (rows ++ rest ≡ others)) ⊎ ((rest : List Row) × (others ++ rest ≡ rows))
fronts bytes rows others (after, left, reached) (behind, right, again) =
    reached_fronts default_config st.StartRecord after behind (strip_bom bytes) left right rows others reached again

-- all rows are the first rows
pub all_are_first : (bytes : List ℕ) (rows : List Row) → AreAllRows bytes rows → AreFirstRows bytes rows
all_are_first bytes rows (after, rest, reached, none) = (after, rest, reached)

-- all rows of a file are the same each time
pub all_rows_once : (bytes : List ℕ) (rows others : List Row) → AreAllRows bytes rows → AreAllRows bytes others → rows ≡ others
all_rows_once bytes rows others whole again =
    let front = front_of_all bytes rows others again (all_are_first bytes rows whole) in
    let back = front_of_all bytes others rows whole (all_are_first bytes others again) in
    let long = sym (length-append rows front.0) ∙ ap length front.1 in
    let back_long = sym (length-append others back.0) ∙ ap length back.1 in
    no_rest front.0 front.1 (omega (arith, long, back_long))
  where
    no_rest : (rest : List Row) → rows ++ rest ≡ others → length rest ≡ 0 → rows ≡ others
    no_rest [] same none = sym (append-nil rows) ∙ same
    no_rest (row ∷ rest) same none = absurd (omega arith)
