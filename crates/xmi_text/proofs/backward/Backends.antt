-- What one byte means for the characters behind a place: ends of elements and references.
use Rattle.std.proofs.Common.{◌≡◌, ℕ, zero, suc, ◌+◌, ◌<◌, Bool, true, false, List, [], ◌∷◌, ◌++◌, length, drop, refl, sym, ◌∙◌, ap, subst, arith, Option, Some, None, append_assoc, true≢false}
use Rattle.std.proofs.lemmas.Bool.{and_parts, and_from, ltb-true, eqb-true}
use Rattle.std.specs.Prelude.{slice_get, ◌==◌, nat_lt}
use Rattle.std.specs.List.{list_all}
use lib.Utf8.{encodes, scalar, scalars, low_scalar}
use Rattle.mof_metamodel.specs.Characters.{is_blank}
use Rattle.xmi_text.specs.declared.limits.TheConstants.{MAX_XMI_NESTING}
use Rattle.xmi_text.specs.ByteClass as bytes
use Rattle.xmi_text.specs.ByteClass.{within}
use Rattle.xmi_text.specs.States as states
use Rattle.xmi_text.specs.States.{go, fail, is_inside, around, cleared, cleared_by}
use Rattle.xmi_text.specs.Steps as steps
use Rattle.xmi_text.specs.Automaton as automaton
use Rattle.xmi_text.specs.Automaton.{step, step_by}
use Rattle.xmi_text.specs.Markup as markup
use Rattle.xmi_text.specs.Markup.{piece_text}
use Rattle.xmi_text.specs.declared.error.TextKind.TheVariants as kinds
use Rattle.xmi_text.specs.declared.state.State.{State}
use Rattle.xmi_text.specs.declared.state.Mode.{Mode}
use Rattle.xmi_text.specs.declared.state.Mode.TheVariants as modes
use Rattle.xmi_text.specs.declared.state.Ready.TheVariants as ready
use Rattle.xmi_text.proofs.forward.Spelled.{stacked, inside_by}
use Rattle.xmi_text.proofs.backward.Parsing.{Spelt, Content, with_piece, Titled}
use Rattle.xmi_text.proofs.backward.Backward.{in_mode, Ended, After, Read, EndRead, Back, either, failed, low, gone, put, Has, all_scalars}
use Rattle.xmi_text.proofs.forward.Spelled.{innermost_by, front_by}
use Rattle.std.proofs.lemmas.Str.{encodes-append}
use Rattle.xmi_text.proofs.backward.Backsteps.{around_read}
use Rattle.xmi_text.proofs.forward.Spelled.{length-stacked}
use Rattle.xmi_text.proofs.backward.Backtags.{name_low, element_content, Room}
use Rattle.xmi_text.specs.Writing.{named}

pub begun_by : (s : State) (run : List ℕ) (names : List (List ℕ)) (less b : ℕ) (bs : List ℕ) → b < 128 → Has s names → Room s.rooted names → bytes.begins_name b ≡ true → Back (Read (After s names (modes.Less less)) (b ∷ bs)) bs (states.begin_tag (record s { mode = modes.Less less; partial = None; ready = ready.Nothing; run = run }) less b)
begun_by s [] names less b bs h e r q = record {
  back = λ l. low (Titled false names (b ∷ []) []) (After s names (modes.Less less)) b bs h (λ cs k. element_content s.rooted names b cs r (name_low b q) k) (l names (e.0, e.1, and_from (scalar b) true (low_scalar b (omega arith)) refl));
}
begun_by s (c ∷ run) names less b bs h e r q = record {
  back = λ l. low (Titled false names (b ∷ []) []) (After s names (modes.Less less)) b bs h (λ cs k. element_content s.rooted names b cs r (name_low b q) k) (l names (e.0, e.1, and_from (scalar b) true (low_scalar b (omega arith)) refl));
}

pub deep_by : (goal : Type 0) (bs : List ℕ) (s : State) (run : List ℕ) (m : Mode) (names : List (List ℕ)) (at : ℕ) → Has s names → Back goal bs (fail (record s { mode = m; partial = None; run = run; ready = states.due run }) kinds.Limit at)
deep_by goal bs s [] m names at e = record { back = λ l. absurd (l names e) }
deep_by goal bs s (c ∷ run) m names at e = record { back = λ l. absurd (l names e) }

pub room_inside : (s : State) (names : List (List ℕ)) → s.elements ≡ stacked names → is_inside s ≡ true → length s.elements < MAX_XMI_NESTING → Room s.rooted names
room_inside s [] e i h = absurd (true≢false (sym i ∙ inside_by s.elements [] e))
room_inside s (name ∷ names) e i h = omega (arith, length-stacked (name ∷ names), ap length e)

pub room_outside : (s : State) (names : List (List ℕ)) → s.elements ≡ stacked names → is_inside s ≡ false → s.rooted ≡ false → Room s.rooted names
room_outside s [] e i r = r
room_outside s (name ∷ names) e i r = absurd (true≢false (sym (inside_by s.elements (name ∷ names) e) ∙ i))

pub element_back : (s : State) (names : List (List ℕ)) (less at b : ℕ) (bs : List ℕ) → b < 128 → Has s names → bytes.begins_name b ≡ true → Back (Read (After s names (modes.Less less)) (b ∷ bs)) bs (steps.begin_element (in_mode s (modes.Less less)) less at b)
element_back s names less at b bs h e q =
    either (is_inside s)
    (λ i. either (nat_lt (length s.elements) MAX_XMI_NESTING) (λ f. begun_by s s.run names less b bs h e (room_inside s names e.0 i (ltb-true (length s.elements) MAX_XMI_NESTING f)) q)
    (λ _. deep_by _ bs s s.run (modes.Less less) names less e))
    (λ i. either s.rooted (λ _. failed _ bs s (modes.Less less) names kinds.BadMark at e) (λ r. begun_by s s.run names less b bs h e (room_outside s names e.0 i r) q))

pub end_content : (rooted : Bool) (name : List ℕ) (outer : List (List ℕ)) (cs : List ℕ) → Ended rooted (name ∷ outer) cs → Content rooted (name ∷ outer) (60 ∷ 47 ∷ (name ++ cs))
end_content rooted name outer cs k =
    subst (Content rooted (name ∷ outer))
    (ap (λ xs. 60 ∷ 47 ∷ xs) (append_assoc name (k.blanks ++ 62 ∷ []) k.rest ∙ ap (λ xs. name ++ xs) (append_assoc k.blanks (62 ∷ []) k.rest ∙ sym k.is)))
    (with_piece rooted (name ∷ outer) (markup.EndTag name k.blanks) k.rest (k.blank, refl) refl k.more)

pub scalars_join : (xs ys : List ℕ) → scalars xs ≡ true → scalars ys ≡ true → scalars (xs ++ ys) ≡ true
scalars_join [] ys e f = f
scalars_join (x ∷ xs) ys e f = let p = and_parts (scalar x) (scalars xs) e in and_from (scalar x) (scalars (xs ++ ys)) p.0 (scalars_join xs ys p.1 f)

pub end_read : (rooted : Bool) (name : List ℕ) (outer : List (List ℕ)) (b : ℕ) (bs known : List ℕ) → b < 128 → (b == 47) ≡ true → scalars name ≡ true → known ≡ encodes name → EndRead rooted (name ∷ outer) known bs → Read (λ cs. Content rooted (name ∷ outer) (60 ∷ cs)) (b ∷ bs)
end_read rooted name outer b bs known h q n e k =
    let r = k.more in
    let spelt : Spelt bs (name ++ r.cs) = record {
      is = k.is ∙ ap (λ xs. xs ++ k.rest) e ∙ ap (λ xs. encodes name ++ xs) r.spelt.is ∙ sym (encodes-append name r.cs);
      scalars = scalars_join name r.cs n r.spelt.scalars;
    } in
    low (λ cs. Content rooted (name ∷ outer) (60 ∷ 47 ∷ cs)) (λ cs. Content rooted (name ∷ outer) (60 ∷ cs)) b bs h (λ cs c. put (λ xs. Content rooted (name ∷ outer) (60 ∷ xs)) b 47 cs q c)
    (record { cs = name ++ r.cs; spelt = spelt; are = end_content rooted name outer r.cs r.are })

pub end_by : (s : State) (run : List ℕ) (names : List (List ℕ)) (less b : ℕ) (bs : List ℕ) → b < 128 → Has s names → is_inside s ≡ true → (b == 47) ≡ true → Back (Read (After s names (modes.Less less)) (b ∷ bs)) bs (states.begin_end (record s { mode = modes.Less less; partial = None; ready = ready.Nothing; run = run }) less)
end_by s run [] less b bs h e i q = absurd (true≢false (sym i ∙ inside_by s.elements [] e.0))
end_by s [] (name ∷ names) less b bs h e i q = record {
  back = λ l. end_read s.rooted name names b bs _ h q (and_parts (scalars name) (all_scalars names) e.1).0 (ap (λ o. encodes (named o)) (innermost_by s.elements names name e.0)) (l (name ∷ names) e);
}
end_by s (c ∷ run) (name ∷ names) less b bs h e i q = record {
  back = λ l. end_read s.rooted name names b bs _ h q (and_parts (scalars name) (all_scalars names) e.1).0 (ap (λ o. encodes (named o)) (innermost_by s.elements names name e.0)) (l (name ∷ names) e);
}

pub less_back : (s : State) (names : List (List ℕ)) (less at b : ℕ) (bs : List ℕ) → b < 128 → Has s names → Back (Read (After s names (modes.Less less)) (b ∷ bs)) bs (steps.less (in_mode s (modes.Less less)) less at b)
less_back s names less at b bs h e =
    let m : Mode = modes.Less less in
    let C : List ℕ → Type 0 = λ xs. Content s.rooted names (60 ∷ xs) in
    either (b == 33) (λ q. gone s m (modes.Bang less) names b bs h e tt (λ cs k. put C b 33 cs q k))
    (λ _. either (b == 63) (λ q. gone s m modes.Question names b bs h e tt (λ cs k. put C b 63 cs q k))
    (λ _. either (b == 47) (λ q. either (is_inside s) (λ i. end_by s s.run names less b bs h e i q) (λ _. failed _ bs s m names kinds.BadMark at e))
    (λ _. either (bytes.begins_name b) (λ q. element_back s names less at b bs h e q) (λ _. failed _ bs s m names kinds.BadName at e))))

pub tail_back : (s : State) (m : Mode) (name : List ℕ) (names : List (List ℕ)) (less at b : ℕ) (bs : List ℕ) → b < 128 → Has s (name ∷ names) → Back (Read (Ended s.rooted (name ∷ names)) (b ∷ bs)) bs (steps.tail (in_mode s m) less at b)
tail_back s m name names less at b bs h e =
    let E : List ℕ → Type 0 = Ended s.rooted (name ∷ names) in
    either (b == 62)
    (λ q. record {
      back = λ l. low (Content s.rooted names) E b bs h (λ cs k. put E b 62 cs q (record { blanks = []; rest = cs; is = refl; blank = refl; more = k }))
          (around_read (record s { elements = states.front s.elements; run_at = at + 1; returned = false }) names (is_inside (states.left s)) bs
          (l names (front_by s.elements names name e.0, (and_parts (scalars name) (all_scalars names) e.1).1, e.2)));
    })
    (λ _. either (bytes.is_blank b)
    (λ q. record { back = λ l. low E E b bs h (λ cs k. record { blanks = b ∷ k.blanks; rest = k.rest; is = ap (λ xs. b ∷ xs) k.is; blank = and_from (is_blank b) (list_all is_blank k.blanks) q k.blank; more = k.more }) (l (name ∷ names) e) })
    (λ _. failed _ bs s m (name ∷ names) kinds.BadMark at e))

pub drop_at : (xs : List ℕ) (m b : ℕ) → slice_get xs m ≡ Some b → drop m xs ≡ b ∷ drop (m + 1) xs
drop_at [] m b e = cc
drop_at (x ∷ xs) zero b e = let same : x ≡ b = cc in ap (λ y. y ∷ xs) same
drop_at (x ∷ xs) (suc m) b e = let n : suc m + 1 ≡ suc (m + 1) = omega arith in drop_at xs m b e ∙ ap (λ k. b ∷ drop k (x ∷ xs)) (sym n)

pub drop_past : (xs : List ℕ) (m : ℕ) → slice_get xs m ≡ None → drop m xs ≡ []
drop_past [] zero e = refl
drop_past [] (suc m) e = refl
drop_past (x ∷ xs) zero e = cc
drop_past (x ∷ xs) (suc m) e = drop_past xs m e

pub byte_named : (name : Option (List ℕ)) (m : ℕ) → automaton.byte_of name m ≡ slice_get (encodes (named name)) m
byte_named None m = refl
byte_named (Some name) m = refl

pub to_end : (rooted : Bool) (names : List (List ℕ)) (known : List ℕ) (bs : List ℕ) → known ≡ [] → Read (Ended rooted names) bs → EndRead rooted names known bs
to_end rooted names known bs e r = record { rest = bs; is = ap (λ xs. xs ++ bs) (sym e); more = r }

pub mapped : {goal other : Type 0} {bs : List ℕ} {x : State} → (goal → other) → Back goal bs x → Back other bs x
mapped f k = record { back = λ l. f (k.back l) }

pub end_name_by : (s : State) (name : List ℕ) (names : List (List ℕ)) (less m at b : ℕ) (bs : List ℕ) (w : Option ℕ) → automaton.wanted s m ≡ w → Has s (name ∷ names) → Back (EndRead s.rooted (name ∷ names) (drop m (encodes (named (automaton.innermost s.elements)))) (b ∷ bs)) bs (automaton.end_name_by (in_mode s (modes.EndName less m)) less m at b w)
end_name_by s name names less m at b bs None z e =
    let n : Mode = modes.EndName less m in
    let known : List ℕ = encodes (named (automaton.innermost s.elements)) in
    let past : drop m known ≡ [] = drop_past known m (sym (byte_named (automaton.innermost s.elements) m) ∙ z) in
    either (bytes.holds_in_name b) (λ _. failed _ bs s n (name ∷ names) kinds.WrongEnd less e)
    (λ _. either (nat_lt b 128) (λ h. mapped (to_end s.rooted (name ∷ names) (drop m known) (b ∷ bs) past) (tail_back s n name names less at b bs (ltb-true b 128 h) e))
    (λ _. failed _ bs s n (name ∷ names) kinds.BadUtf8 at e))
end_name_by s name names less m at b bs (Some w) z e =
    let n : Mode = modes.EndName less m in
    let known : List ℕ = encodes (named (automaton.innermost s.elements)) in
    let found : drop m known ≡ w ∷ drop (m + 1) known = drop_at known m w (sym (byte_named (automaton.innermost s.elements) m) ∙ z) in
    either (w == b)
    (λ q. record { back = λ l. let k = l (name ∷ names) e in record { rest = k.rest; is = ap (λ xs. b ∷ xs) k.is ∙ ap (λ x. x ∷ (drop (m + 1) known ++ k.rest)) (sym (eqb-true w b q)) ∙ ap (λ xs. xs ++ k.rest) (sym found); more = k.more } })
    (λ _. failed _ bs s n (name ∷ names) kinds.WrongEnd less e)
