-- The commands of clap that read the arguments, and the values that they find.
use Rattle.std.specs.Prelude.{ℕ, true, List, [], Some, codes, unwrap_or}
use Rattle.std.specs.List.{flat_map}
use Rattle.clap.specs.Lexer.{usize_max}
use Rattle.clap.specs.Simple.{App, new_app, new_rule, on_top, with_rule}
use Rattle.clap.specs.Walk.{Row, Rule, all_of}
use Rattle.command_words.specs.declared.synopsis.Synopsis.{Synopsis}
use Rattle.command_words.specs.declared.synopsis.Synopsis.TheVariants.{Models, Conversion, Generation}

-- an argument with one value
abbrev pub one : List ℕ → Rule
one name = record (new_rule name) { required = true }

-- an argument with one value or more
abbrev pub many : List ℕ → Rule
many name = record (one name) { range = Some (record { start_inclusive = 1; end_inclusive = usize_max }) }

-- a command without arguments, flags and options, whose words don't begin with its name
abbrev pub bare : App
bare = on_top (λ s. record s { no_binary_name = true; disable_help_flag = true }) (new_app [])

abbrev pub command_of : Synopsis → App
command_of Models = with_rule (with_rule (with_rule bare (one (codes "SCRIPT"))) (one (codes "TARGET"))) (many (codes "NAME=PATH"))
command_of Conversion =
    with_rule (with_rule (with_rule (with_rule bare (one (codes "FORM"))) (one (codes "META"))) (one (codes "IN"))) (one (codes "OUT"))
command_of Generation = with_rule (with_rule bare (one (codes "N"))) (one (codes "SEED"))

-- the values that were found for the argument with a name
abbrev pub values_at : List Row → List ℕ → List (List ℕ)
values_at rows name = unwrap_or (all_of name rows) []

-- those of the arguments with these names, in their order
abbrev pub values_in : List Row → List (List ℕ) → List (List ℕ)
values_in rows names = flat_map (values_at rows) names
