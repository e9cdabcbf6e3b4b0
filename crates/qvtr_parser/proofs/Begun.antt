-- Some script begins with the tokens before the one at which reading a script stops.
use Rattle.std.proofs.Common.{◌≡◌, ℕ, zero, suc, ◌+◌, ◌-◌, ◌<◌, ◌≤◌, Bool, true, false, nat_lt, List, [], ◌∷◌, ◌++◌, length, take, slice_get, Some, Ok, Err, ap, sym, ◌∙◌, refl, subst, arith, length-append}
use Rattle.std.proofs.lemmas.Bool.Decides.{nat_tests}
use Rattle.std.proofs.lemmas.List.{append-nil, append_assoc, length-take-le, take-append-le, take-take, take_all}
use Rattle.qv_syntax.specs.declared.script.Script.{Script}
use Rattle.ql_lex.specs.Lexed.{Lexeme}
use Rattle.ql_lex.specs.Lexemes.{stands}
use Rattle.ocl_parser.specs.Beginnings.{opens}
use Rattle.ocl_parser.specs.Readings.{Read}
use Rattle.ocl_parser.specs.declared.halt.Stop.{Stop}
use Rattle.ocl_parser.specs.declared.halt.Stop.TheVariants as stops
use Rattle.qvtr_parser.specs.Beginnings.{Begins, BeginsWithin, IsShallow}
use Rattle.qvtr_parser.specs.Grammar.{IsScriptWithin}
use Rattle.qvtr_parser.specs.ScriptReadings.{script_read}
use Rattle.qvtr_parser.proofs.CompleteLists.{stands_before}
use Rattle.qvtr_parser.proofs.Found.{script_found}
use Rattle.qvtr_parser.proofs.Told.{Same, number_of, same_stands, stop_at}
use Rattle.qvtr_parser.proofs.ToldLists.{ends_at}
use Rattle.qvtr_parser.proofs.ToldScripts.{script_told}
use Rattle.qvtr_parser.proofs.Ended.{Ending, Has}
use Rattle.qvtr_parser.proofs.EndedLists.{levels_same}
use Rattle.qvtr_parser.proofs.EndedScripts.{at_end, script_part, script_short}
use Rattle.qvtr_parser.proofs.Refused.{deep_opens, script_wider}

-- ---- tokens behind others

get_behind : (xs ls : List Lexeme) (l : Lexeme) → slice_get (xs ++ l ∷ ls) (length xs) ≡ Some l
get_behind [] ls l = refl
get_behind (x ∷ xs) ls l = get_behind xs ls l

has_behind : (xs more : List Lexeme) → Has (xs ++ more) (length xs) more
has_behind xs [] = tt
has_behind xs (l ∷ more) =
    let long : length (xs ++ l ∷ []) ≡ length xs + 1 = length-append xs (l ∷ []) in
    let there : Has ((xs ++ l ∷ []) ++ more) (length xs + 1) more = subst (λ (j : ℕ). Has ((xs ++ l ∷ []) ++ more) j more) long (has_behind (xs ++ l ∷ []) more) in
    (get_behind xs more l, subst (λ (ls : List Lexeme). Has ls (length xs + 1) more) (append_assoc xs (l ∷ []) more) there)

-- ---- where reading is stuck

-- With so many levels, which are no more than those that there are where the last token opened one: but for what templates,
-- expressions and types open, a script takes three.
record BegunAt (ts : List Lexeme) (n k : ℕ) : Type 0 where
  levels : ℕ
  begins : BeginsWithin ts levels k
  shallow : stands opens ts (k - 1) ≡ true → 3 ≤ n → levels ≤ n

ending_begins : (ts : List Lexeme) (n k : ℕ) → k ≤ length ts → Ending ends_at at_end 3 ts n (λ ts n. script_read ts n) k → BegunAt ts n k
ending_begins ts n k within e =
    let us : List Lexeme = take k ts ++ e.more in
    let long : length (take k ts) ≡ k = length-take-le k ts within in
    let same : Same ts us k = take-append-le k (take k ts) e.more (omega (arith, long)) ∙ take_all k (take k ts) (omega (arith, long)) in
    let has : Has us k e.more = subst (λ (j : ℕ). Has us j e.more) long (has_behind (take k ts) e.more) in
    let end : length us ≡ k + length e.more = omega (arith, long, length-append (take k ts) e.more) in
    let y = e.ends us e.enough (omega arith) same has end in
    record { levels = e.enough; begins = record { more = e.more; script = y.0.0; spelled = script_found us e.enough y.0 y.1 }; shallow = e.shallow }

stuck_begun : (ts : List Lexeme) (n k : ℕ) → k ≤ length ts → script_read ts n ≡ Err (stops.Stuck k) → BegunAt ts n k
stuck_begun ts n zero within e =
    let y = (script_part ts n).whole.reads script_short 3 (omega arith) (has_behind [] script_short) refl in
    record { levels = 3; begins = record { more = script_short; script = y.0.0; spelled = script_found script_short 3 y.0 y.1 }; shallow = λ o h. h }
stuck_begun ts n (suc k) within e = ending_begins ts n (suc k) within (((script_part ts n).ended tt).ends (suc k) (omega arith) e)

pub stuck_begins : (ts : List Lexeme) (n k : ℕ) → k ≤ length ts → script_read ts n ≡ Err (stops.Stuck k) → Begins ts k
stuck_begins ts n k within e = let b = stuck_begun ts n k within e in (b.levels, b.begins)

-- ---- before a token at which reading goes on

-- the tokens up to and with one before that at which reading ends or stops
read_begun : (ts : List Lexeme) (n j : ℕ) → j < length ts → j < number_of ends_at (script_read ts n) → BegunAt ts n (j + 1)
read_begun ts n j less on = by (script_read us n) refl
  where
    us : List Lexeme
    us = take (j + 1) ts

    long : length us ≡ j + 1
    long = length-take-le (j + 1) ts (omega (arith, less))

    all : take (j + 1) us ≡ us
    all = take_all (j + 1) us (omega (arith, long))

    of_cut : BegunAt us n (j + 1) → BegunAt ts n (j + 1)
    of_cut b = record {
      levels = b.levels;
      begins = record { more = b.begins.more; script = b.begins.script; spelled = subst (λ (ls : List Lexeme). IsScriptWithin (ls ++ b.begins.more) b.levels b.begins.script) all b.begins.spelled };
      shallow = λ o h. b.shallow (opened o) h;
    }
      where
        opened : stands opens ts (j + 1 - 1) ≡ true → stands opens us (j + 1 - 1) ≡ true
        opened o = same_stands opens ts us (j + 1) (j + 1 - 1) (omega arith) all ∙ o

    again : (s : Stop) → script_read us n ≡ Err s → stop_at s ≤ j → script_read ts n ≡ Err s
    again s e before =
        let here : number_of ends_at (script_read us n) ≡ stop_at s = ap (number_of ends_at) e in
        let same : Same us ts (number_of ends_at (script_read us n) + 1) = sym (take-take (number_of ends_at (script_read us n) + 1) (j + 1) ts (omega (arith, here, before))) in
        script_told.alike us ts n n tt same (levels_same n (script_read us n)) ∙ e

    stopped : (s : Stop) → script_read us n ≡ Err s → BegunAt ts n (j + 1)
    stopped s e = side s e (nat_lt j (stop_at s)) refl
      where
        side : (s : Stop) → script_read us n ≡ Err s → (b : Bool) → nat_lt j (stop_at s) ≡ b → BegunAt ts n (j + 1)
        side s e false b =
            let before : stop_at s ≤ j = grind (arith, nat_tests) in
            let same : number_of ends_at (script_read ts n) ≡ stop_at s = ap (number_of ends_at) (again s e before) in
            absurd (omega (arith, on, same, before))
        side s e true b =
            let behind : j < stop_at s = grind (arith, nat_tests) in
            let here : number_of ends_at (script_read us n) ≡ stop_at s = ap (number_of ends_at) e in
            let within : stop_at s ≤ length us = subst (λ (m : ℕ). m ≤ length us) here (script_told.within us n tt (omega arith)) in
            at_it s e (omega (arith, behind, within, long))
          where
            at_it : (s : Stop) → script_read us n ≡ Err s → stop_at s ≡ j + 1 → BegunAt ts n (j + 1)
            at_it (stops.Stuck k) e here = of_cut (stuck_begun us n (j + 1) (omega (arith, long)) (e ∙ ap (λ (m : ℕ). Err (stops.Stuck m)) here))
            at_it (stops.Deep k) e here = absurd (omega (arith, here, long, stands_before opens us k (deep_opens us n k e)))

    by : (q : Read Script) → script_read us n ≡ q → BegunAt ts n (j + 1)
    by (Ok x) e = record {
      levels = n;
      begins = record { more = []; script = x.0; spelled = subst (λ (ls : List Lexeme). IsScriptWithin ls n x.0) (sym (append-nil us)) (script_found us n x e) };
      shallow = λ o h. omega arith;
    }
    by (Err s) e = stopped s e

begins_wider : (ts : List Lexeme) (n w k : ℕ) → n ≤ w → BeginsWithin ts n k → BeginsWithin ts w k
begins_wider ts n w k wide b = record { more = b.more; script = b.script; spelled = script_wider (take k ts ++ b.more) n w b.script b.spelled wide }

-- no token before that at which reading ends or stops opens a level past the last
pub read_shallow : (ts : List Lexeme) (n k : ℕ) → 3 ≤ n → k ≤ number_of ends_at (script_read ts n) → IsShallow ts n k
read_shallow ts n k some on j less o =
    let b = read_begun ts n j (stands_before opens ts j o) (omega (arith, less, on)) in
    let here : j + 1 - 1 ≡ j = omega arith in
    begins_wider ts b.levels n (j + 1) (b.shallow (ap (stands opens ts) here ∙ o) some) b.begins

-- with more levels reading goes on behind a token for which a level is missing
pub deep_begins : (ts : List Lexeme) (n k : ℕ) → script_read ts n ≡ Err (stops.Deep k) → Begins ts (k + 1)
deep_begins ts n k e =
    let d = ((script_part ts n).ended tt).deeper k e in
    let b = read_begun ts d.0 k (stands_before opens ts k (deep_opens ts n k e)) (d.1 d.0 (omega arith)) in
    (b.levels, b.begins)
