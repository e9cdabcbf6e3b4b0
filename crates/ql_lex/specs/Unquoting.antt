-- What strings and quoted names stand for.
use Rattle.std.specs.Prelude.{ℕ, true, false, not, ◌==◌, if◌then◌else◌, List, [], ◌∷◌, ◌++◌, fold}
use Rattle.ql_lex.specs.declared.unquoting.Unquoted.{Unquoted}

-- the character that a character stands for behind a `\`
abbrev pub meaning : ℕ → ℕ
meaning c = if c == 116 then 9 else if c == 110 then 10 else if c == 114 then 13 else c

abbrev pub with_character : Unquoted → ℕ → Unquoted
with_character u c = record { text = u.text ++ c ∷ []; opened = true; escaped = false }

-- one character further: what stands before the opening quote is passed over, and so is a quote that no `\` escapes
unfoldable pub passed : Unquoted → ℕ → Unquoted
passed u c =
    if not u.opened then record { text = u.text; opened = c == 39; escaped = u.escaped }
    else if u.escaped then with_character u (meaning c)
    else if c == 92 then record { text = u.text; opened = u.opened; escaped = true }
    else if c == 39 then u
    else with_character u c

-- the characters between the quotes, with each escape as one
unfoldable pub unquoted : List ℕ → List ℕ
unquoted characters = (fold passed (record { text = []; opened = false; escaped = false }) characters).text
