-- Wrong answers that the definitions exclude, each on a small case: what the definition gives, and that it isn't what the wrong
-- code would answer. A contract says that the code's result is what the definition gives, so it refuses that code.
use Rattle.std.specs.Prelude.{◌≡◌, true, false, [], ◌∷◌, None, Some}
use Rattle.std.proofs.Common.{refl}
use Rattle.model_assembly.specs.declared.assembly.entry.Entry.{Entry}
use Rattle.model_assembly.specs.declared.assembly.naming.Naming.{Naming}
use Rattle.model_assembly.specs.declared.assembly.naming.Saying.{Saying}
use Rattle.model_assembly.specs.declared.assembly.first.Part.{Part}
use Rattle.model_assembly.specs.AssemblyFirsts.{is_dangling, is_contradicted, is_unanswered_at}
use Rattle.model_assembly.proofs.Small.{cls}

-- ---- a reference that names nothing

abbrev names_nothing : Entry
names_nothing = record { object = 0; place = 1; property = record { 0 = 1 }; target = None; written = 0 }

pub nothing_is_dangling : is_dangling cls [] names_nothing ≡ true
nothing_is_dangling = refl

-- no fault of a reference that names nothing
pub reads_a_dangling_reference_as_empty : is_dangling cls [] names_nothing ≡ false → ⊥
reads_a_dangling_reference_as_empty e = cc

-- ---- object 0 names object 1 at property 1, and at the opposite, property 2, object 1 speaks, and doesn't name it

abbrev names : Naming
names = record { object = 0; property = 1; target = 1 }

abbrev speaks : Saying
speaks = record { object = 1; property = 2 }

pub is_left_unanswered : is_unanswered_at [] (speaks ∷ []) names (Some 2) ≡ true
is_left_unanswered = refl

-- no fault, since the other one doesn't name it
pub hears_only_who_is_named : is_unanswered_at [] (speaks ∷ []) names (Some 2) ≡ false → ⊥
hears_only_who_is_named e = cc

-- ---- object 0 as a part of object 1, said twice

abbrev part : Part
part = record { part = 0; whole = 1; property = 2 }

pub said_twice_alike : is_contradicted (Some part ∷ []) part ≡ false
said_twice_alike = refl

-- two containers, where one and the same is said twice
pub takes_one_container_for_two : is_contradicted (Some part ∷ []) part ≡ true → ⊥
takes_one_container_for_two e = cc
