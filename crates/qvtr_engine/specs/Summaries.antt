-- What is printed of an example that was run.
use Rattle.std.specs.Prelude.{ℕ, Bool, List, [], ◌∷◌, codes, if◌then◌else◌}
use Rattle.std.specs.Fmt.{decimal}
use Rattle.fault_lines.specs.Lines.{line}
use Rattle.example_run.specs.declared.summary.Summary.{Summary}

-- whether the relations hold
abbrev pub verdict_word : Bool → List ℕ
verdict_word holds = if holds then codes "yes" else codes "no"

-- whether a second enforcement changes the target
abbrev pub second_word : Bool → List ℕ
second_word unchanged = if unchanged then codes "unchanged" else codes "changed"

-- `classes N attributes A created C check V second W`
abbrev pub summary_text : Summary → List ℕ
summary_text s =
    line (codes "classes" ∷ decimal s.classes ∷ codes "attributes" ∷ decimal s.attributes ∷ codes "created" ∷ decimal s.created
    ∷ codes "check" ∷ verdict_word s.holds ∷ codes "second" ∷ second_word s.unchanged ∷ [])
