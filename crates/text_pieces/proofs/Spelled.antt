-- What is read of a text, by cases.
use Rattle.std.proofs.Common.{◌≡◌, ap, Some, None}
use Rattle.text_pieces.specs.Reads.{Reads}

-- nothing, where nothing is spelled
pub none_spelled : {T A : Type 0} (spelled : A → T) (Lawful : A → Type 0) (text : T) → ((value : A) → Lawful value → ¬ (text ≡ spelled value))
    → Reads spelled Lawful text None
none_spelled spelled Lawful text none = record { found = tt; only = λ value lawful is. absurd (none value lawful is) }

-- a value, where it alone is spelled
pub one_spelled : {T A : Type 0} (spelled : A → T) (Lawful : A → Type 0) (text : T) (value : A) → Lawful value → text ≡ spelled value
    → ((other : A) → Lawful other → text ≡ spelled other → value ≡ other) → Reads spelled Lawful text (Some value)
one_spelled spelled Lawful text value lawful is same =
    record { found = (lawful, is); only = λ other also is'. ap Some (same other also is') }
