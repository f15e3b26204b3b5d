-- The bytes of a line (ISCAS .bench; which bytes may stand in a name is this project's own).
use Rattle.std.specs.Prelude.{ℕ, Bool, true, false, not, ◌==◌, ◌&&◌, ◌||◌, nat_le, if◌then◌else◌, List}
use Rattle.std.specs.List.{before_first, list_any}
use Rattle.bench_reader.specs.declared.byte.ByteClass.{ByteClass}
use Rattle.bench_reader.specs.declared.byte.ByteClass.TheVariants.{Blank, Mark, NamePart, Bad}
use Rattle.bench_reader.specs.declared.byte.Mark.TheVariants.{Open, Close, Comma, Equals}

-- the byte that begins a comment
abbrev pub begins_comment : ℕ → Bool
begins_comment byte = byte == 35

-- what stands before the comment of a line
abbrev pub code_of : List ℕ → List ℕ
code_of line = before_first begins_comment line

-- white space: a tab, a form feed, a carriage return or a space
abbrev pub is_blank : ℕ → Bool
is_blank byte = byte == 9 || (byte == 12 || (byte == 13 || byte == 32))

-- the bytes 33 to 126 without the double quote, and without the one that begins a comment
abbrev pub is_allowed : ℕ → Bool
is_allowed byte = nat_le 33 byte && (nat_le byte 126 && (not (byte == 34) && not (begins_comment byte)))

-- what a byte outside a comment is
abbrev pub class_of : ℕ → ByteClass
class_of byte =
    if is_blank byte then Blank
    else if byte == 40 then Mark Open
    else if byte == 41 then Mark Close
    else if byte == 44 then Mark Comma
    else if byte == 61 then Mark Equals
    else if is_allowed byte then NamePart
    else Bad

-- whether this is the class of a part of a name
abbrev pub is_name_part : ByteClass → Bool
is_name_part NamePart = true
is_name_part _ = false

-- whether a byte is part of a name
abbrev pub is_part : ℕ → Bool
is_part byte = is_name_part (class_of byte)

-- whether this is the class of a byte that may not stand outside a comment
abbrev pub is_bad : ByteClass → Bool
is_bad Bad = true
is_bad _ = false

-- whether some byte may not stand where it stands
abbrev pub has_bad_byte : List ℕ → Bool
has_bad_byte code = list_any (λ byte. is_bad (class_of byte)) code
