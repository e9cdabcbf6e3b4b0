-- How a text is read as a name, a character at a time.
use Rattle.std.specs.Prelude.{ℕ, Bool, true, false, ◌==◌, ◌||◌, if◌then◌else◌}
use Rattle.xmi_text.specs.ByteClass.{begins_name, continues_name}
use Rattle.xmi_text.specs.Names.{is_far}
use Rattle.xmi_text.specs.declared.names.Spelling.{Spelling}
use Rattle.xmi_text.specs.declared.names.Spelling.TheVariants.{Nothing, Name, NoName}

-- what one character is
abbrev pub first : ℕ → Spelling
first c = if begins_name c || is_far c then Name false else NoName

-- what a name is with one more character
abbrev pub another : Bool → ℕ → Spelling
another colon c =
    if c == 58 then (if colon then NoName else Name true)
    else (if continues_name c || is_far c then Name colon else NoName)

-- what characters are with one more
abbrev pub longer : Spelling → ℕ → Spelling
longer Nothing c = first c
longer (Name colon) c = another colon c
longer NoName c = NoName

abbrev pub is_spelled : Spelling → Bool
is_spelled Nothing = false
is_spelled (Name colon) = true
is_spelled NoName = false
