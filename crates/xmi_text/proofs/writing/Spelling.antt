-- A text is a name where it is read as one, a character at a time.
use Rattle.std.proofs.Common.{◌≡◌, ℕ, Bool, true, false, cond, List, [], ◌∷◌, refl}
use Rattle.std.specs.Prelude.{◌==◌, ◌||◌, ◌&&◌, not}
use Rattle.std.specs.List.{fold}
use Rattle.xmi_text.specs.ByteClass.{begins_name, continues_name}
use Rattle.xmi_text.specs.Names.{is_far, is_name, goes_on}
use Rattle.xmi_text.specs.Spellings.{longer, is_spelled}
use Rattle.xmi_text.specs.declared.names.Spelling.TheVariants.{Nothing, Name, NoName}

-- no name stays none
never : (cs : List ℕ) → is_spelled (fold longer NoName cs) ≡ false
never [] = refl
never (c ∷ cs) = never cs

-- what follows a character that goes on with a name, or not
behind_one : (b : Bool) (colon : Bool) (cs : List ℕ) → is_spelled (fold longer (Name colon) cs) ≡ goes_on colon cs → is_spelled (fold longer (cond b (Name colon) NoName) cs) ≡ (b && goes_on colon cs)
behind_one true colon cs e = e
behind_one false colon cs e = never cs

behind_colon : (colon : Bool) (cs : List ℕ) → is_spelled (fold longer (Name true) cs) ≡ goes_on true cs → is_spelled (fold longer (cond colon NoName (Name true)) cs) ≡ (not colon && goes_on true cs)
behind_colon true cs e = never cs
behind_colon false cs e = e

behind_either : (is : Bool) (colon : Bool) (b : Bool) (cs : List ℕ) → is_spelled (fold longer (Name true) cs) ≡ goes_on true cs → is_spelled (fold longer (Name colon) cs) ≡ goes_on colon cs
    → is_spelled (fold longer (cond is (cond colon NoName (Name true)) (cond b (Name colon) NoName)) cs) ≡ cond is (not colon && goes_on true cs) (b && goes_on colon cs)
behind_either true colon b cs e f = behind_colon colon cs e
behind_either false colon b cs e f = behind_one b colon cs f

going_on : (cs : List ℕ) (colon : Bool) → is_spelled (fold longer (Name colon) cs) ≡ goes_on colon cs
going_on [] colon = refl
going_on (c ∷ cs) colon = behind_either (c == 58) colon (continues_name c || is_far c) cs (going_on cs true) (going_on cs colon)

pub spelled_names : (cs : List ℕ) → is_spelled (fold longer Nothing cs) ≡ is_name cs
spelled_names [] = refl
spelled_names (c ∷ cs) = behind_one (begins_name c || is_far c) false cs (going_on cs false)
