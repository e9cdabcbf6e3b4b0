-- What templates and their items leave open can be ended.
use Rattle.std.proofs.Common.{◌≡◌, ℕ, zero, suc, ◌+◌, ◌-◌, ◌<◌, ◌≤◌, inl, inr, Bool, true, false, nat_lt, List, [], ◌∷◌, slice_get, Option, Some, None, Result, Ok, Err, ap, sym, ◌∙◌, refl, subst, arith, true≢false}
use Rattle.std.specs.Prelude.{codes, if◌then◌else◌}
use Rattle.std.specs.Str.{bytes_eq}
use Rattle.std.proofs.lemmas.Bool.Decides.{nat_tests}
use Rattle.mof_metamodel.specs.declared.span.Span.{Span}
use Rattle.qv_syntax.specs.declared.name.Name.{Name}
use Rattle.qv_syntax.specs.declared.name.Path.{Path}
use Rattle.qv_syntax.specs.declared.expr.Expr.{Expr}
use Rattle.qv_syntax.specs.declared.expr.Expr.TheVariants as exprs
use Rattle.qv_syntax.specs.declared.script.TemplateTree.{TemplateTree, roll-TemplateTree}
use Rattle.qv_syntax.specs.declared.script.ItemTree.{ItemTree}
use Rattle.qv_syntax.specs.declared.script.ItemValueTree.{ItemValueTree}
use Rattle.qv_syntax.specs.declared.script.ItemValueTree.TheVariants as values
use Rattle.ql_lex.specs.declared.token.TokenKind.{TokenKind}
use Rattle.ql_lex.specs.declared.token.TokenKind.TheVariants as kinds
use Rattle.ql_lex.specs.Lexed.{Lexeme}
use Rattle.ql_lex.specs.Lexemes.{is_name, is_sign, name_text, span_at, stands}
use Rattle.ql_lex.proofs.TokenLaws.{stands_some}
use Rattle.ocl_parser.specs.Beginnings.{opens}
use Rattle.ocl_parser.specs.Completion.{mark, null, some_name}
use Rattle.ocl_parser.specs.Followers.{may_go_on}
use Rattle.ocl_parser.specs.Moves.{extended, path_of}
use Rattle.ocl_parser.specs.Runs.{Tree, Stuck}
use Rattle.ocl_parser.specs.Readings.{Read, and_then, expr_read, name_at, name_by, name_read, opening_read, path_behind, path_read, read_by, sign_read, token_read}
use Rattle.ocl_parser.specs.declared.halt.Stop.{Stop}
use Rattle.ocl_parser.specs.declared.halt.Stop.TheVariants as stops
use Rattle.ocl_parser.proofs.FollowLaws.{colon_stuck, name_ends}
use Rattle.ocl_parser.proofs.ReadingFound.{name_stands}
use Rattle.qvtr_parser.specs.ScriptReadings.{begins_template, is_any_name, is_name_at, is_sign_at, item_by, items_by, items_read, nested_read, template_by, template_read, value_read}
use Rattle.qvtr_parser.proofs.ApartLaws.{AreApart, apart_at, named_at, passes_too, sign_no_word, signs_apart}
use Rattle.qvtr_parser.proofs.CompleteTemplates.{name_at_is}
use Rattle.qvtr_parser.proofs.FoundLaws.{inverted}
use Rattle.qvtr_parser.proofs.TemplateLaws.{unrolled}
use Rattle.qvtr_parser.proofs.Told.{Reading, Told, followed, itself, loosen, name_told, number_of, same_span, stop_at}
use Rattle.qvtr_parser.proofs.ToldLists.{ends_at}
use Rattle.qvtr_parser.proofs.ToldTypes.{brace_opens, items_told, template_told, value_told}
use Rattle.qvtr_parser.proofs.Ended.{Anything, Calm, Ended, Has, Next, Part, Whole, done_part, ended_by, meets_end, meets_first, meets_free, sequence_part, token_calm, token_part, tuned, whole_by}
use Rattle.qvtr_parser.proofs.EndedParts.{braced_part, choice_ended, lowered_part, name_part, picked, token_choice_ended}
use Rattle.qvtr_parser.proofs.EndedLists.{any_part}
use Rattle.qvtr_parser.proofs.EndedExprs.{expr_free, expr_part, path_part}

-- ---- readings of tokens none of which opens a level

calm_followed : {X Y : Type 0} {atX : X → ℕ} (atY : Y → ℕ) {a i : ℕ} (ts : List Lexeme) (n : ℕ) {m : Reading X} (k : X → Reading Y) → Told (λ n. Unit {0}) atX a i m → Calm atX ts n i m → ((x : X) → m ts n ≡ Ok x → Calm atY ts n (atX x) (k x)) → Calm atY ts n i (followed m k)
calm_followed {X} {Y} {atX} atY {a} {i} ts n {m} k told first then_ j from less = by (m ts n) refl less
  where
    by : (q : Result X Stop) → m ts n ≡ q → j < number_of atY (and_then q (λ x. k x ts n)) → stands opens ts j ≡ false
    by (Ok x) e h = side (nat_lt j (atX x)) refl
      where
        side : (b : Bool) → nat_lt j (atX x) ≡ b → stands opens ts j ≡ false
        side true b =
            let here : number_of atX (m ts n) ≡ atX x = ap (number_of atX) e in
            let before : j < atX x = grind (arith, nat_tests) in
            first j from (omega (arith, here, before))
        side false b = then_ x e j (grind (arith, nat_tests)) h
    by (Err s) e h =
        let here : number_of atX (m ts n) ≡ number_of atY (stopped s) = ap (number_of atX) e in
        first j from (omega (arith, here, h))
      where
        stopped : Stop → Result Y Stop
        stopped s = Err s

name_no_opener : (x : Name) → AreApart (is_name x) opens
unfolding name_text
name_no_opener x l e = by l.token.kind l.text l.token.span e
  where
    of_kind : TokenKind → List ℕ → Span → Lexeme
    of_kind kind text span = record { token = record { kind = kind; span = span }; text = text }

    by : (kind : TokenKind) (y : List ℕ) (span : Span) → is_name x (of_kind kind y span) ≡ true → opens (of_kind kind y span) ≡ false
    by kinds.Name y span e = refl
    by kinds.Quoted y span e = refl
    by kinds.Reserved y span e = absurd (true≢false (sym e))
    by kinds.Number y span e = absurd (true≢false (sym e))
    by kinds.Str y span e = absurd (true≢false (sym e))
    by kinds.Sign y span e = absurd (true≢false (sym e))

name_halts : (ts : List Lexeme) (i : ℕ) (s : Stop) → name_read ts i ≡ Err s → stop_at s ≡ i
unfolding name_read
name_halts ts i s e = by (slice_get ts i) e
  where
    of : (l : Lexeme) (o : Option (List ℕ)) → name_by l i o ≡ Err s → stop_at s ≡ i
    of l (Some text) e = cc
    of l None e = let same : stops.Stuck i ≡ s = cc in sym (ap stop_at same)

    by : (o : Option Lexeme) → name_at i o ≡ Err s → stop_at s ≡ i
    by (Some l) e = of l (name_text l.token.kind l.text) e
    by None e = let same : stops.Stuck i ≡ s = cc in sym (ap stop_at same)

name_calm : (ts : List Lexeme) (n i : ℕ) → Calm ends_at ts n i (λ ts n. name_read ts i)
name_calm ts n i j from less = by (name_read ts i) refl less
  where
    by : (q : Read Name) → name_read ts i ≡ q → j < number_of ends_at q → stands opens ts j ≡ false
    by (Ok x) e h =
        let s = name_stands ts i x e in
        let here : i ≡ j = omega (arith, from, h, s.1) in
        subst (λ (k : ℕ). stands opens ts k ≡ false) here (apart_at (is_name x.0) opens (name_no_opener x.0) ts i s.0)
    by (Err s) e h = absurd (omega (arith, from, h, name_halts ts i s e))

sign_no_opener : (text : List ℕ) → bytes_eq text (codes "(") ≡ false → bytes_eq text (codes "{") ≡ false → bytes_eq text (codes "-") ≡ false → AreApart (is_sign text) opens
sign_no_opener text a b c l e = rw (
  signs_apart text (codes "(") a l e,
  signs_apart text (codes "{") b l e,
  signs_apart text (codes "-") c l e,
  sign_no_word text (codes "let") l e,
  sign_no_word text (codes "if") l e,
  sign_no_word text (codes "not") l e,
) refl

path_calm : (ts : List Lexeme) (n i : ℕ) → Calm ends_at ts n i (λ ts n. path_read ts i)
unfolding path_read
path_calm ts n i = calm_followed ends_at ts n (λ f ts n. path_behind ts f) (name_told i) (name_calm ts n i) (λ f e. second f)
  where
    done_calm : (p : Path) (i : ℕ) → Calm ends_at ts n i (λ ts n. Ok (p, i))
    done_calm p i j from less = absurd (omega (arith, from, less))

    second : (f : Name × ℕ) → Calm ends_at ts n f.1 (λ ts n. if stands (is_sign (codes "::")) ts f.1
        then and_then (name_read ts (f.1 + 1)) (λ s. Ok (extended (path_of f.0) s.0, s.1)) else Ok (path_of f.0, f.1))
    second f j from less = by (stands (is_sign (codes "::")) ts f.1) refl less
      where
        behind : Calm ends_at ts n (f.1 + 1) (λ ts n. and_then (name_read ts (f.1 + 1)) (λ s. Ok (extended (path_of f.0) s.0, s.1)))
        behind = calm_followed ends_at ts n (λ s ts n. Ok (extended (path_of f.0) s.0, s.1)) (name_told (f.1 + 1)) (name_calm ts n (f.1 + 1)) (λ s e. done_calm (extended (path_of f.0) s.0) s.1)

        by : (b : Bool) → stands (is_sign (codes "::")) ts f.1 ≡ b → j < number_of ends_at (if b then and_then (name_read ts (f.1 + 1)) (λ s. Ok (extended (path_of f.0) s.0, s.1)) else Ok (path_of f.0, f.1)) → stands opens ts j ≡ false
        by false s h = absurd (omega (arith, from, h))
        by true s h = side (nat_lt f.1 j) refl
          where
            side : (c : Bool) → nat_lt f.1 j ≡ c → stands opens ts j ≡ false
            side true c = behind j (grind (arith, nat_tests)) h
            side false c =
                let not_past : j ≤ f.1 = grind (arith, nat_tests) in
                let here : f.1 ≡ j = omega (arith, from, not_past) in
                subst (λ (k : ℕ). stands opens ts k ≡ false) here (apart_at (is_sign (codes "::")) opens (sign_no_opener (codes "::") refl refl refl) ts f.1 s)

colon_calm : (ts : List Lexeme) (n i : ℕ) → Calm itself ts n i (λ ts n. token_read (is_sign (codes ":")) ts i)
colon_calm ts n i = token_calm (is_sign (codes ":")) (sign_no_opener (codes ":") refl refl refl) ts n i

-- ---- a template by its items

abbrev pub template_short : List Lexeme
template_short = mark (codes ":") ∷ some_name ∷ mark (codes "{") ∷ mark (codes "}") ∷ []

-- the brace that closes what is read
abbrev pub closes : List Lexeme → ℕ → Type 0
closes = Next (is_sign (codes "}"))

items_whole : (i : ℕ) → Whole ends_at closes 0 [] i (λ ts n. items_read ts n i)
unfolding items_by
items_whole i = record { reads = λ us n few has follow. reads us n follow }
  where
    reads : (us : List Lexeme) (n : ℕ) → closes us (i + 0) → (y : List ItemTree × ℕ) × (items_read us n i ≡ Ok y) × (y.1 ≡ i + 0)
    reads us n follow =
        let same : i + 0 ≡ i = omega arith in
        let here : stands (is_sign (codes "}")) us i ≡ true = subst (λ (j : ℕ). closes us j) same follow in
        (([], i), rw here refl, sym same)

template_with : {If : Type 0} {ts : List Lexeme} {n : ℕ} (i : ℕ) → ((x : ℕ) → Part ((1 ≤ n) × If) ends_at closes 0 0 [] 0 ts (n - 1) x (λ ts n. items_read ts n x))
    → Part If ends_at Anything 1 0 template_short 1 ts n i (λ ts n. template_by ts (items_read ts (n - 1)) n i)
template_with {If} {ts} {n} i items =
    tuned Anything 1 0 1 (λ us j f. f) (omega arith) (omega arith) (omega arith) (sequence_part 1 0 (omega arith) (omega arith) (omega arith) (omega arith) (token_part (is_sign (codes ":")) (mark (codes ":")) refl i)
    (λ c far. sequence_part {FreeK = Anything} 1 0 (omega arith) (omega arith) (omega arith) (omega arith) (path_part c)
    (λ class further. braced_part 1 0 (codes "{") brace_opens (mark (codes "{")) refl (omega arith) (omega arith) (λ v some h. (omega (arith, some), omega arith))
    (λ x inside. sequence_part {FreeK = Anything} 0 1 (omega arith) (omega arith) (omega arith) (omega arith) (lowered_part 0 1 (λ v h. omega arith) (λ v h. (h, omega arith)) (items x))
    (λ its behind. sequence_part {FreeK = Anything} 0 0 (omega arith) (omega arith) (omega arith) (omega arith) (token_part (is_sign (codes "}")) (mark (codes "}")) refl its.1)
    (λ end last. done_part end (λ ts. roll-TemplateTree (record { class = class.0; items = its.0; span = span_at ts i end }))
    (λ ts us same. ap (λ (at : Span). roll-TemplateTree (record { class = class.0; items = its.0; span = at })) (same_span ts us i end (omega (arith, far, further, inside, behind, last)) same))) meets_free (inl (omega arith)))
    (meets_first (λ us j h. stands_some (is_sign (codes "}")) us j (mark (codes "}")) h) (omega arith)) (inl (omega arith))))
    (meets_first (λ us j h. stands_some (is_sign (codes "::")) us j (mark (codes "{")) h) (omega arith)) (inr (path_calm ts n c)))
    meets_free (inr (colon_calm ts n i)))

template_whole : (i : ℕ) → Whole ends_at Anything 1 template_short i (λ ts n. template_read ts n i)
template_whole i =
    let p : Part ⊥ ends_at Anything 1 0 template_short 1 [] 0 i (λ ts n. template_by ts (items_read ts (n - 1)) n i) =
    template_with i (λ x. record { told = items_told (λ l. template_told l) x; whole = items_whole x; ended = λ h. absurd h.1 }) in
    whole_by (λ ts n. unrolled ts n i) p.whole

-- what is left open by templates can be ended
abbrev Inner : Type 0 → List Lexeme → ℕ → Type 0
Inner If ts n = If → (j : ℕ) → Ended ends_at Anything 0 ts n j (λ ts n. template_read ts n j)

template_whole_part : {If : Type 0} {ts : List Lexeme} {n : ℕ} → Inner If ts n → (i : ℕ) → Part If ends_at Anything 1 0 template_short 1 ts n i (λ ts n. template_read ts n i)
template_whole_part inner i = record { told = template_told i; whole = template_whole i; ended = λ if_. inner if_ i }

-- ---- values of items

colon_goes_on : (l : Lexeme) → is_sign (codes ":") l ≡ true → may_go_on l ≡ true
colon_goes_on l e = rw (signs_apart (codes ":") (codes "}") refl l e, signs_apart (codes ":") (codes ",") refl l e, signs_apart (codes ":") (codes ";") refl l e) refl

-- a template begins with a colon
template_begins : (us : List Lexeme) (w j : ℕ) (t : TemplateTree × ℕ) → template_read us w j ≡ Ok t → is_sign_at us (codes ":") j ≡ true
template_begins us w j t e = by (is_sign_at us (codes ":") j) (unrolled us w j ∙ e)
  where
    rest : ℕ → Read TemplateTree
    rest colon = and_then (path_read us colon) (λ class. and_then (opening_read us (codes "{") w class.1) (λ inside. and_then (items_read us (w - 1) inside) (λ is. and_then (sign_read us (codes "}") is.1)
        (λ end. Ok (roll-TemplateTree (record { class = class.0; items = is.0; span = span_at us j end }), end)))))

    by : (b : Bool) → and_then (if b then Ok (j + 1) else Err (stops.Stuck j)) rest ≡ Ok t → b ≡ true
    by true e = refl
    by false e = cc

nested_begins : (us : List Lexeme) (w i : ℕ) (y : ItemValueTree × ℕ) → nested_read us (template_read us w) i ≡ Ok y → begins_template us i ≡ true
nested_begins us w i y e = by (is_sign_at us (codes ":") i) refl e
  where
    by : (b : Bool) → is_sign_at us (codes ":") i ≡ b → (if b then and_then (template_read us w i) (λ t. Ok (values.Nested None t.0, t.1))
        else and_then (name_read us i) (λ n. and_then (template_read us w n.1) (λ t. Ok (values.Nested (Some n.0) t.0, t.1)))) ≡ Ok y → begins_template us i ≡ true
    by true s h = rw s refl
    by false s h =
        let x = inverted (name_read us i) (λ n. and_then (template_read us w n.1) (λ t. Ok (values.Nested (Some n.0) t.0, t.1))) y h in
        let t = inverted (template_read us w x.0.1) (λ t. Ok (values.Nested (Some x.0.0) t.0, t.1)) y x.2 in
        let n = name_stands us i x.0 x.1 in
        let named : is_name_at us i ≡ true = named_at us x.0.0 i n.0 in
        let colon : is_sign_at us (codes ":") (i + 1) ≡ true = ap (is_sign_at us (codes ":")) (sym n.1) ∙ template_begins us w x.0.1 t.0 t.1 in
        rw (s, named, colon) refl

-- where an expression is read and nothing follows that goes on with it no template begins
plain_begins : (us : List Lexeme) (w i : ℕ) (x : Expr × ℕ) → expr_read us w i ≡ Ok x → stands may_go_on us x.1 ≡ false → begins_template us i ≡ false
unfolding expr_read
plain_begins us w i x e follow = by (is_sign_at us (codes ":") i) refl (is_name_at us i) refl (is_sign_at us (codes ":") (i + 1)) refl
  where
    by : (a : Bool) → is_sign_at us (codes ":") i ≡ a → (b : Bool) → is_name_at us i ≡ b → (c : Bool) → is_sign_at us (codes ":") (i + 1) ≡ c → begins_template us i ≡ false
    by true p b q c r =
        let no : read_by (Stuck i) ≡ Ok x = ap read_by (sym (colon_stuck us w i p)) ∙ e in
        cc
    by false p false q c r = rw (p, q) refl
    by false p true q false r = rw (p, q, r) refl
    by false p true q true r =
        let n = name_at_is us i q in
        let tree : read_by (Tree (exprs.Named (path_of n.0)) (i + 1)) ≡ Ok x = ap read_by (sym (name_ends us w i n.0 n.1 r)) ∙ e in
        let here : i + 1 ≡ x.1 = cc in
        let on : stands may_go_on us x.1 ≡ true = subst (λ (k : ℕ). stands may_go_on us k ≡ true) here (passes_too (is_sign (codes ":")) may_go_on colon_goes_on us (i + 1) r) in
        absurd (true≢false (sym on ∙ follow))

nested_ended : {ts : List Lexeme} {n : ℕ} → Inner (Unit {0}) ts n → (i : ℕ) → Ended ends_at expr_free 0 ts n i (λ ts n. nested_read ts (template_read ts n) i)
nested_ended {ts} {n} inner i =
    token_choice_ended (is_sign (codes ":")) one.told (loosen 1 (omega arith) other.told) (one.ended tt) (other.ended tt)
  where
    one : Part (Unit {0}) ends_at expr_free 1 0 template_short 1 ts n i (λ ts n. and_then (template_read ts n i) (λ t. Ok (values.Nested None t.0, t.1)))
    one = sequence_part 1 0 (omega arith) (omega arith) (omega arith) (omega arith) (template_whole_part inner i) (λ t far. done_part t.1 (λ ts. values.Nested None t.0) (λ ts us same. refl)) (meets_end (λ us j f. tt)) (inl (omega arith))

    other : Part (Unit {0}) ends_at expr_free 1 0 (some_name ∷ template_short) 2 ts n i (λ ts n. and_then (name_read ts i) (λ n_. and_then (template_read ts n n_.1) (λ t. Ok (values.Nested (Some n_.0) t.0, t.1))))
    other = sequence_part 1 0 (omega arith) (omega arith) (omega arith) (omega arith) (name_part i)
        (λ x far. sequence_part {FreeK = expr_free} 1 0 (omega arith) (omega arith) (omega arith) (omega arith) (template_whole_part inner x.1) (λ t more. done_part t.1 (λ ts. values.Nested (Some x.0) t.0) (λ ts us same. refl)) (meets_end (λ us j f. tt)) (inl (omega arith)))
        meets_free (inr (name_calm ts n i))

abbrev plain_read : ℕ → Reading (ItemValueTree × ℕ)
plain_read i ts n = and_then (expr_read ts n i) (λ e. Ok (values.Expr e.0, e.1))

plain_part : {If : Type 0} {ts : List Lexeme} {n : ℕ} (i : ℕ) → Part If ends_at expr_free 0 0 (null ∷ []) 1 ts n i (plain_read i)
plain_part i = sequence_part 0 0 (omega arith) (omega arith) (omega arith) (omega arith) (expr_part i) (λ e far. done_part e.1 (λ ts. values.Expr e.0) (λ ts us same. refl)) (meets_end (λ us j f. f)) (inl (omega arith))

value_part : {If : Type 0} {ts : List Lexeme} {n : ℕ} → Inner If ts n → (i : ℕ) → Part If ends_at expr_free 0 0 (null ∷ []) 1 ts n i (λ ts n. value_read ts (template_read ts n) n i)
value_part {If} {ts} {n} inner i = record {
  told = value_told (λ j. template_told j) i;
  whole = record { reads = λ us v few has follow. reads us v has follow };
  ended = λ if_. choice_ended (λ us. begins_template us i) (λ b t us w y e follow same. seen b us w y e follow) (λ t. nested_ended (λ u. inner if_) i) (λ t. plain.ended if_);
}
  where
    plain : Part If ends_at expr_free 0 0 (null ∷ []) 1 ts n i (plain_read i)
    plain = plain_part i

    reads : (us : List Lexeme) (v : ℕ) → Has us i (null ∷ []) → stands may_go_on us (i + 1) ≡ false → (y : ItemValueTree × ℕ) × (value_read us (template_read us v) v i ≡ Ok y) × (y.1 ≡ i + 1)
    reads us v has follow =
        let no_colon : is_sign_at us (codes ":") i ≡ false = stands_some (is_sign (codes ":")) us i null has.0 in
        let no_name : is_name_at us i ≡ false = stands_some is_any_name us i null has.0 in
        let y = plain.whole.reads us v (omega arith) has follow in
        (y.0, rw (no_colon, no_name) y.1, y.2)

    seen : (b : Bool) (us : List Lexeme) (w : ℕ) (y : ItemValueTree × ℕ) → picked (λ ts n. nested_read ts (template_read ts n) i) (plain_read i) us w b ≡ Ok y → stands may_go_on us y.1 ≡ false → begins_template us i ≡ b
    seen true us w y e follow = nested_begins us w i y e
    seen false us w y e follow =
        let x = inverted (expr_read us w i) (λ e. Ok (values.Expr e.0, e.1)) y e in
        let here : x.0.1 ≡ y.1 = number_same x.0 y x.2 in
        plain_begins us w i x.0 x.1 (ap (stands may_go_on us) here ∙ follow)
      where
        value_ok : ItemValueTree × ℕ → Read ItemValueTree
        value_ok y = Ok y

        number_same : (x : Expr × ℕ) (y : ItemValueTree × ℕ) → value_ok (values.Expr x.0, x.1) ≡ Ok y → x.1 ≡ y.1
        number_same x y h = cc

-- ---- items

abbrev equals_sign : Lexeme
equals_sign = mark (codes "=")

item_part : {If : Type 0} {ts : List Lexeme} {n : ℕ} → Inner If ts n → (i : ℕ) → Part If ends_at expr_free 0 0 (some_name ∷ equals_sign ∷ null ∷ []) 1 ts n i (λ ts n. item_by ts (template_read ts n) n i)
unfolding item_by
item_part {If} {ts} {n} inner i =
    tuned expr_free 0 0 1 (λ us j f. f) (omega arith) (omega arith) (omega arith) (sequence_part 0 0 (omega arith) (omega arith) (omega arith) (omega arith) (name_part i)
    (λ x far. sequence_part {FreeK = expr_free} 0 0 (omega arith) (omega arith) (omega arith) (omega arith) (token_part (is_sign (codes "=")) equals_sign refl x.1)
    (λ equals more. sequence_part {FreeK = expr_free} 0 0 (omega arith) (omega arith) (omega arith) (omega arith) (value_part inner equals) (λ v last. done_part v.1 (λ ts. record { prop = x.0; value = v.0 }) (λ ts us same. refl)) (meets_end (λ us j f. f)) (inl (omega arith)))
    meets_free (inl (omega arith))) meets_free (inl (omega arith)))

pub brace_ends : (us : List Lexeme) (j : ℕ) → closes us j → expr_free us j
brace_ends us j f = apart_at (is_sign (codes "}")) may_go_on brace_stays us j f
  where
    brace_stays : AreApart (is_sign (codes "}")) may_go_on
    brace_stays l e = rw e refl

brace_no_comma : (us : List Lexeme) (j : ℕ) → closes us j → stands (is_sign (codes ",")) us j ≡ false
brace_no_comma us j f = apart_at (is_sign (codes "}")) (is_sign (codes ",")) (signs_apart (codes "}") (codes ",") refl) us j f

items_part : {If : Type 0} {ts : List Lexeme} {n : ℕ} → Inner If ts n → (i : ℕ) → Part If ends_at closes 0 0 [] 0 ts n i (λ ts n. items_read ts n i)
unfolding items_by
items_part {If} {ts} {n} inner i = any_part (codes "}") (λ ts n j. item_by ts (template_read ts n) n j) closes (λ us j f. f) brace_no_comma brace_ends (item_part inner) i

-- ---- templates

template_ended : (ts : List Lexeme) (n i : ℕ) → Ended ends_at Anything 0 ts n i (λ ts n. template_read ts n i)
template_ended ts zero i =
    let p : Part (Unit {0}) ends_at Anything 1 0 template_short 1 ts zero i (λ ts n. template_by ts (items_read ts (n - 1)) n i) = template_with i (λ x. items_part (λ h j. absurd (omega (arith, h.0))) x) in
    ended_by (λ ts n. unrolled ts n i) (p.ended tt)
template_ended ts (suc n) i =
    let less : n ≡ suc n - 1 = omega arith in
    let p : Part (Unit {0}) ends_at Anything 1 0 template_short 1 ts (suc n) i (λ ts n. template_by ts (items_read ts (n - 1)) n i) =
    template_with i (λ x. items_part (λ h j. subst (λ (m : ℕ). Ended ends_at Anything 0 ts m j (λ ts n. template_read ts n j)) less (template_ended ts n j)) x) in
    ended_by (λ ts n. unrolled ts n i) (p.ended tt)

pub template_part : {If : Type 0} {ts : List Lexeme} {n : ℕ} (i : ℕ) → Part If ends_at Anything 1 0 template_short 1 ts n i (λ ts n. template_read ts n i)
template_part {If} {ts} {n} i = template_whole_part (λ if_ j. template_ended ts n j) i
