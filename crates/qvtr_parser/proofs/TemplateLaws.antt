-- A template by what reads its items.
use Rattle.std.proofs.Common.{◌≡◌, ℕ, zero, suc, ◌+◌, ◌-◌, Bool, true, false, List, Result, Ok, Err, ap, refl, arith}
use Rattle.std.specs.Prelude.{codes, ◌==◌, if◌then◌else◌}
use Rattle.qv_syntax.specs.declared.script.ItemTree.{ItemTree}
use Rattle.ql_lex.specs.Lexed.{Lexeme}
use Rattle.ql_lex.specs.Lexemes.{is_sign, stands}
use Rattle.ocl_parser.specs.Readings.{Read, and_then, opening_read, path_read, sign_read}
use Rattle.ocl_parser.specs.declared.halt.Stop.{Stop}
use Rattle.ocl_parser.specs.declared.halt.Stop.TheVariants as stops
use Rattle.qvtr_parser.specs.ScriptReadings.{template_by, template_read, items_read}

after : {X Y : Type 0} (m : Result X Stop) (f g : X → Result Y Stop) → ((x : X) → f x ≡ g x) → and_then m f ≡ and_then m g
after (Ok x) f g same = same x
after (Err s) f g same = refl

-- where no level is left, nothing is read behind what opens one
none_opened : {Y : Type 0} (ts : List Lexeme) (text : List ℕ) (at : ℕ) (f g : ℕ → Result Y Stop) → and_then (opening_read ts text 0 at) f ≡ and_then (opening_read ts text 0 at) g
none_opened ts text at f g = by (stands (is_sign text) ts at)
  where
    by : (b : Bool) → and_then (if b then (if 0 == 0 then Err (stops.Deep at) else Ok (at + 1)) else Err (stops.Stuck at)) f
        ≡ and_then (if b then (if 0 == 0 then Err (stops.Deep at) else Ok (at + 1)) else Err (stops.Stuck at)) g
    by true = refl
    by false = refl

no_level : (ts : List Lexeme) (one other : ℕ → Read (List ItemTree)) (at : ℕ) → template_by ts one 0 at ≡ template_by ts other 0 at
no_level ts one other at = after (sign_read ts (codes ":") at) _ _ (λ colon. after (path_read ts colon) _ _ (λ class. none_opened ts (codes "{") class.1 _ _))

-- the items are read with a level less
pub unrolled : (ts : List Lexeme) (levels at : ℕ) → template_by ts (items_read ts (levels - 1)) levels at ≡ template_read ts levels at
unfolding template_read
unrolled ts zero at = no_level ts (items_read ts (0 - 1)) (λ inside. Err (stops.Stuck inside)) at
unrolled ts (suc levels) at =
    let less : suc levels - 1 ≡ levels = omega arith in
    ap (λ (n : ℕ). template_by ts (items_read ts n) (suc levels) at) less
