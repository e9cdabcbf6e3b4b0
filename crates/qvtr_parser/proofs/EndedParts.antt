-- What single readings, choices and lists of values leave open can be ended.
use Rattle.std.proofs.Common.{◌≡◌, ℕ, ◌+◌, ◌-◌, ◌<◌, ◌≤◌, ◌⊎◌, inl, inr, Bool, true, false, nat_lt, max, List, [], ◌∷◌, length, slice_get, Option, Some, None, Result, Ok, Err, ap, sym, ◌∙◌, refl, subst, arith, true≢false}
use Rattle.std.specs.Prelude.{codes, if◌then◌else◌, ◌==◌}
use Rattle.std.specs.Str.{chars}
use Rattle.std.proofs.lemmas.Bool.Decides.{nat_tests}
use Rattle.qv_syntax.specs.declared.name.Name.{Name}
use Rattle.ql_lex.specs.Lexed.{Lexeme}
use Rattle.ql_lex.specs.Lexemes.{is_sign, name_text, stands}
use Rattle.ql_lex.proofs.TokenLaws.{stands_some}
use Rattle.ocl_parser.specs.Beginnings.{opens}
use Rattle.ocl_parser.specs.Completion.{some_name}
use Rattle.ocl_parser.specs.Readings.{and_then, name_at, name_by, name_read, opening_read, token_read}
use Rattle.ocl_parser.specs.declared.halt.Stop.{Stop}
use Rattle.ocl_parser.specs.declared.halt.Stop.TheVariants as stops
use Rattle.qvtr_parser.specs.ScriptReadings.{behind_if}
use Rattle.qvtr_parser.proofs.Told.{Reading, Same, Told, braced_told, by_next, followed, itself, lower_all, name_told, number_of, restricted, same_get, same_less, same_stands, optional_told, skip_told, whole}
use Rattle.qvtr_parser.proofs.ToldLists.{ends_at}
use Rattle.qvtr_parser.proofs.Ended.{Anything, Calm, Ended, Ending, Has, Part, done_part, ended_by, meets_free, sequence_ended, token_calm, token_part, tuned}

-- ---- a level further in

pub lowered_part : {Y : Type 0} {If : Type 0} {at : Y → ℕ} {Free : List Lexeme → ℕ → Type 0} {least reserve step n i : ℕ} {short ts : List Lexeme} {m : Reading Y} (l r : ℕ)
    → ((v : ℕ) → l ≤ v → least ≤ v - 1) → ((v : ℕ) → r ≤ v → (1 ≤ v) × (reserve ≤ v - 1))
    → Part If at Free least reserve short step ts (n - 1) i m → Part If at Free l r short step ts n i (λ ts n. m ts (n - 1))
lowered_part {Y} {If} {at} {Free} {least} {reserve} {step} {n} {i} {short} {ts} {m} l r few kept p = record {
  told = lower_all p.told;
  whole = record { reads = λ us v enough has follow. p.whole.reads us (v - 1) (few v enough) has follow };
  ended = λ if_. record {
    cut = λ us w y e same follow wide. (p.ended if_).cut us (w - 1) y e same follow (omega (arith, wide));
    ends = λ k less e. (
        let g = (p.ended if_).ends k less e in
        record {
          more = g.more;
          enough = g.enough + 1;
          shallow = λ o h. omega (arith, (kept n h).0, g.shallow o (kept n h).1);
          ends = λ us v en same has follow. g.ends us (v - 1) (omega (arith, en)) same has follow;
        });
    deeper = λ k e. (let d = (p.ended if_).deeper k e in (d.0 + 1, λ v en. d.1 (v - 1) (omega (arith, en))));
  };
}

-- ---- a sign that opens a level

pub braced_part : {Y : Type 0} {If : Type 0} {at : Y → ℕ} {Free : List Lexeme → ℕ → Type 0} {least reserve step n i : ℕ} {short ts : List Lexeme} {k : ℕ → Reading Y} (l r : ℕ) (text : List ℕ) → ((x : Lexeme) → is_sign text x ≡ true → opens x ≡ true)
    → (opener : Lexeme) → is_sign text opener ≡ true → 1 ≤ l → least ≤ l → ((v : ℕ) → 1 ≤ v → r ≤ v → (reserve ≤ v) × (least ≤ v))
    → ((x : ℕ) → i + 1 ≤ x → Part ((1 ≤ n) × If) at Free least reserve short step ts n x (k x)) → Part If at Free l r (opener ∷ short) (1 + step) ts n i (followed (λ ts n. opening_read ts text n i) k)
braced_part {Y} {If} {at} {Free} {least} {reserve} {step} {n} {i} {short} {ts} {k} l r text opening opener is_it one few kept inner = record {
  told = braced_told text opening i (λ x far. restricted (λ n is. tt) (inner x far).told);
  whole = record { reads = λ us v enough has follow. reads us v enough has follow };
  ended = λ if_. record {
    cut = λ us w y e same follow wide. cut_by if_ us w (stands (is_sign text) ts i) refl (n == 0) refl y e same follow wide;
    ends = λ j less e. ends_by if_ j less (stands (is_sign text) ts i) refl (n == 0) refl e;
    deeper = λ j e. deeper_by if_ j (stands (is_sign text) ts i) refl (n == 0) refl e;
  };
}
  where
    in_ : Part ((1 ≤ n) × If) at Free least reserve short step ts n (i + 1) (k (i + 1))
    in_ = inner (i + 1) (omega arith)

    some : (v : ℕ) → (v == 0) ≡ false → 1 ≤ v
    some v e = grind (arith, nat_tests)

    opened : (us : List Lexeme) (v : ℕ) → stands (is_sign text) us i ≡ true → 1 ≤ v → and_then (opening_read us text v i) (λ x. k x us v) ≡ k (i + 1) us v
    opened us v s h =
        let left : (v == 0) ≡ false = grind (arith, nat_tests) in
        rw (s, left) refl

    reads : (us : List Lexeme) (v : ℕ) → l ≤ v → Has us i (opener ∷ short) → Free us (i + length (opener ∷ short)) → (y : Y) × (and_then (opening_read us text v i) (λ x. k x us v) ≡ Ok y) × (at y ≡ i + length (opener ∷ short))
    reads us v enough has follow =
        let long : i + length (opener ∷ short) ≡ i + 1 + length short = omega arith in
        let y = in_.whole.reads us v (omega (arith, few, enough)) has.1 (subst (λ (j : ℕ). Free us j) long follow) in
        let s : stands (is_sign text) us i ≡ true = stands_some (is_sign text) us i opener has.0 ∙ is_it in
        (y.0, opened us v s (omega (arith, one, enough)) ∙ y.1, y.2 ∙ sym long)

    cut_by : If → (us : List Lexeme) (w : ℕ) (b : Bool) → stands (is_sign text) ts i ≡ b → (c : Bool) → (n == 0) ≡ c → (y : Y)
        → and_then (if b then (if c then Err (stops.Deep i) else Ok (i + 1)) else Err (stops.Stuck i)) (λ x. k x ts n) ≡ Ok y → Same ts us (at y) → Free us (at y) → n ≤ w
        → and_then (opening_read us text w i) (λ x. k x us w) ≡ Ok y
    cut_by if_ us w true s true z y e same follow wide = cc
    cut_by if_ us w true s false z y e same follow wide =
        let far = in_.told.further ts n tt y e in
        let t : stands (is_sign text) us i ≡ true = same_stands (is_sign text) ts us (at y) i (omega (arith, far)) same ∙ s in
        opened us w t (omega (arith, some n z, wide)) ∙ (in_.ended (some n z, if_)).cut us w y e same follow wide
    cut_by if_ us w false s c z y e same follow wide = cc

    ends_by : If → (j : ℕ) → i < j → (b : Bool) → stands (is_sign text) ts i ≡ b → (c : Bool) → (n == 0) ≡ c
        → and_then (if b then (if c then Err (stops.Deep i) else Ok (i + 1)) else Err (stops.Stuck i)) (λ x. k x ts n) ≡ Err (stops.Stuck j) → Ending at Free r ts n (followed (λ ts n. opening_read ts text n i) k) j
    ends_by if_ j less true s true z e = cc
    ends_by if_ j less false s c z e = (let here : i ≡ j = cc in absurd (omega (arith, less, here)))
    ends_by if_ j less true s false z e = by (nat_lt (i + 1) j) refl
      where
        sign_in : (us : List Lexeme) → Same ts us j → stands (is_sign text) us i ≡ true
        sign_in us same = same_stands (is_sign text) ts us j i less same ∙ s

        by : (d : Bool) → nat_lt (i + 1) j ≡ d → Ending at Free r ts n (followed (λ ts n. opening_read ts text n i) k) j
        by true d =
            let past : i + 1 < j = grind (arith, nat_tests) in
            let g = (in_.ended (some n z, if_)).ends j past e in
            record {
              more = g.more;
              enough = max n g.enough;
              shallow = λ o h. omega (arith, g.shallow o (kept n (some n z) h).0);
              ends = λ us v en same has follow. (
                  let y = g.ends us v (omega (arith, en)) same has follow in
                  (y.0, opened us v (sign_in us same) (omega (arith, en, some n z)) ∙ y.1, y.2));
            }
        by false d =
            let not_past : j ≤ i + 1 = grind (arith, nat_tests) in
            let here : i + 1 ≡ j = omega (arith, not_past, less) in
            record {
              more = short;
              enough = max n least;
              shallow = λ o h. omega (arith, (kept n (some n z) h).1);
              ends = λ us v en same has follow. (
                  let h : Has us (i + 1) short = subst (λ (x : ℕ). Has us x short) (sym here) has in
                  let f : Free us (i + 1 + length short) = subst (λ (x : ℕ). Free us (x + length short)) (sym here) follow in
                  let y = in_.whole.reads us v (omega (arith, en)) h f in
                  (y.0, opened us v (sign_in us same) (omega (arith, en, some n z)) ∙ y.1, y.2 ∙ ap (λ (x : ℕ). x + length short) here));
            }

    deeper_by : If → (j : ℕ) → (b : Bool) → stands (is_sign text) ts i ≡ b → (c : Bool) → (n == 0) ≡ c
        → and_then (if b then (if c then Err (stops.Deep i) else Ok (i + 1)) else Err (stops.Stuck i)) (λ x. k x ts n) ≡ Err (stops.Deep j)
        → (w : ℕ) × ((v : ℕ) → w ≤ v → j < number_of at (and_then (opening_read ts text v i) (λ x. k x ts v)))
    deeper_by if_ j true s true z e =
        let here : i ≡ j = cc in
        (1, λ v en. subst (λ (q : Result Y Stop). j < number_of at q) (sym (opened ts v s en)) (let on = in_.told.on ts v tt in omega (arith, on, here)))
    deeper_by if_ j true s false z e =
        let d = (in_.ended (some n z, if_)).deeper j e in
        (d.0 + 1, λ v en. subst (λ (q : Result Y Stop). j < number_of at q) (sym (opened ts v s (omega (arith, en)))) (d.1 v (omega (arith, en))))
    deeper_by if_ j false s c z e = cc

-- ---- names

pub name_part : {If : Type 0} {ts : List Lexeme} {n : ℕ} (i : ℕ) → Part If ends_at Anything 0 0 (some_name ∷ []) 1 ts n i (λ ts n. name_read ts i)
unfolding name_read name_text
name_part {If} {ts} {n} i = record {
  told = name_told i;
  whole = record { reads = λ us n few has follow. ((record { text = chars (codes "a"); span = some_name.token.span }, i + 1), ap (name_at i) has.0, refl) };
  ended = λ if_. record {
    cut = λ us w y e same follow wide. (
        let far = further y (slice_get ts i) e in
        ap (name_at i) (same_get ts us y.1 i (omega (arith, far)) same) ∙ e);
    ends = λ k less e. never k less (slice_get ts i) e;
    deeper = λ k e. shallow k (slice_get ts i) e;
  };
}
  where
    further_name : (y : Name × ℕ) (l : Lexeme) (o : Option (List ℕ)) → name_by l i o ≡ Ok y → i + 1 ≤ y.1
    further_name y l (Some text) e = let here : i + 1 ≡ y.1 = cc in omega arith
    further_name y l None e = cc

    further : (y : Name × ℕ) (o : Option Lexeme) → name_at i o ≡ Ok y → i + 1 ≤ y.1
    further y (Some l) e = further_name y l (name_text l.token.kind l.text) e
    further y None e = cc

    never_name : {X : Type 0} (k : ℕ) → i < k → (l : Lexeme) (o : Option (List ℕ)) → name_by l i o ≡ Err (stops.Stuck k) → X
    never_name k less l (Some text) e = cc
    never_name k less l None e = (let here : i ≡ k = cc in absurd (omega (arith, less, here)))

    never : {X : Type 0} (k : ℕ) → i < k → (o : Option Lexeme) → name_at i o ≡ Err (stops.Stuck k) → X
    never k less (Some l) e = never_name k less l (name_text l.token.kind l.text) e
    never k less None e = (let here : i ≡ k = cc in absurd (omega (arith, less, here)))

    shallow_name : {X : Type 0} (k : ℕ) (l : Lexeme) (o : Option (List ℕ)) → name_by l i o ≡ Err (stops.Deep k) → X
    shallow_name k l (Some text) e = cc
    shallow_name k l None e = cc

    shallow : {X : Type 0} (k : ℕ) (o : Option Lexeme) → name_at i o ≡ Err (stops.Deep k) → X
    shallow k (Some l) e = shallow_name k l (name_text l.token.kind l.text) e
    shallow k None e = cc

-- ---- choices

abbrev pub picked : {Y : Type 0} → Reading Y → Reading Y → List Lexeme → ℕ → Bool → Result Y Stop
picked m o us v b = if b then m us v else o us v

-- A choice by a test that is the same in each text where the reading that it chose is read, what follows may follow, and the next token
-- is the same where that reading took it.
pub choice_ended : {Y : Type 0} {at : Y → ℕ} {Free : List Lexeme → ℕ → Type 0} {reserve n i : ℕ} {ts : List Lexeme} (test : List Lexeme → Bool) {m o : Reading Y}
    → ((b : Bool) → test ts ≡ b → (us : List Lexeme) (w : ℕ) (y : Y) → picked m o us w b ≡ Ok y → Free us (at y) → (i < at y → Same ts us (i + 1)) → test us ≡ b)
    → (test ts ≡ true → Ended at Free reserve ts n i m) → (test ts ≡ false → Ended at Free reserve ts n i o) → Ended at Free reserve ts n i (λ ts n. if test ts then m ts n else o ts n)
choice_ended {Y} {at} {Free} {reserve} {n} {i} {ts} test {m} {o} seen one other = record {
  cut = λ us w y e same follow wide. cut_by us w (test ts) refl y e same follow wide;
  ends = λ k less e. ends_by k less (test ts) refl e;
  deeper = λ k e. deeper_by k (test ts) refl e;
}
  where
    of : (b : Bool) → test ts ≡ b → Ended at Free reserve ts n i (λ us v. picked m o us v b)
    of true t = one t
    of false t = other t

    same_one : (b : Bool) (us : List Lexeme) (v : ℕ) → test us ≡ b → picked m o us v (test us) ≡ picked m o us v b
    same_one b us v t = ap (picked m o us v) t

    cut_by : (us : List Lexeme) (w : ℕ) (b : Bool) → test ts ≡ b → (y : Y) → picked m o ts n b ≡ Ok y → Same ts us (at y) → Free us (at y) → n ≤ w → picked m o us w (test us) ≡ Ok y
    cut_by us w b t y e same follow wide =
        let read = (of b t).cut us w y e same follow wide in
        same_one b us w (seen b t us w y read follow (λ less. same_less ts us (i + 1) (at y) (omega (arith, less)) same)) ∙ read

    ends_by : (k : ℕ) → i < k → (b : Bool) → test ts ≡ b → picked m o ts n b ≡ Err (stops.Stuck k) → Ending at Free reserve ts n (λ ts n. picked m o ts n (test ts)) k
    ends_by k less b t e =
        let g = (of b t).ends k less e in
        record {
          more = g.more;
          enough = g.enough;
          shallow = g.shallow;
          ends = λ us v en same has follow. (
              let y = g.ends us v en same has follow in
              let f : Free us (at y.0) = subst (λ (j : ℕ). Free us j) (sym y.2) follow in
              let u : test us ≡ b = seen b t us v y.0 y.1 f (λ far. same_less ts us (i + 1) k (omega (arith, less)) same) in
              (y.0, same_one b us v u ∙ y.1, y.2));
        }

    deeper_by : (k : ℕ) (b : Bool) → test ts ≡ b → picked m o ts n b ≡ Err (stops.Deep k) → (w : ℕ) × ((v : ℕ) → w ≤ v → k < number_of at (picked m o ts v (test ts)))
    deeper_by k b t e =
        let d = (of b t).deeper k e in
        (d.0, λ v en. subst (λ (q : Result Y Stop). k < number_of at q) (sym (same_one b ts v t)) (d.1 v en))

-- a choice by the next token between two readings that take it
pub token_choice_ended : {A : Type 0} {Free : List Lexeme → ℕ → Type 0} {reserve n i : ℕ} {ts : List Lexeme} (passes : Lexeme → Bool) {m o : Reading (A × ℕ)} → Told (λ n. Unit {0}) ends_at 1 i m → Told (λ n. Unit {0}) ends_at 1 i o
    → Ended ends_at Free reserve ts n i m → Ended ends_at Free reserve ts n i o → Ended ends_at Free reserve ts n i (λ ts n. if stands passes ts i then m ts n else o ts n)
token_choice_ended {A} {Free} {reserve} {n} {i} {ts} passes {m} {o} one other one_ended other_ended =
    choice_ended (λ us. stands passes us i) (λ b t us w y e follow same. seen b t us w y e same) (λ t. one_ended) (λ t. other_ended)
  where
    seen : (b : Bool) → stands passes ts i ≡ b → (us : List Lexeme) (w : ℕ) (y : A × ℕ) → picked m o us w b ≡ Ok y → (i < y.1 → Same ts us (i + 1)) → stands passes us i ≡ b
    seen true t us w y e same =
        let far = one.further us w tt y e in
        same_stands passes ts us (i + 1) i (omega arith) (same (omega (arith, far))) ∙ t
    seen false t us w y e same =
        let far = other.further us w tt y e in
        same_stands passes ts us (i + 1) i (omega arith) (same (omega (arith, far))) ∙ t

-- ---- a token that may be passed

pub skip_part : {If : Type 0} {ts : List Lexeme} {n : ℕ} (i : ℕ) (test : List Lexeme → ℕ → Bool) → ((ts us : List Lexeme) → Same ts us (i + 1) → test us i ≡ test ts i) → ((ts : List Lexeme) → test ts i ≡ true → i < length ts)
    → Part If itself (λ us j. test us j ≡ false) 0 0 [] 0 ts n i (λ ts n. Ok (behind_if (test ts i) i))
skip_part {If} {ts} {n} i test seen there = record {
  told = skip_told i (λ ts. test ts i) seen there;
  whole = record {
    reads = λ us v few has follow. (
        let same : i + 0 ≡ i = omega arith in
        let none : test us i ≡ false = subst (λ (j : ℕ). test us j ≡ false) same follow in
        (i, rw none refl, sym same));
  };
  ended = λ if_. record {
    cut = λ us w y e same follow wide. cut_by us (test ts i) refl y e same follow;
    ends = λ k less e. cc;
    deeper = λ k e. cc;
  };
}
  where
    ok : ℕ → Result ℕ Stop
    ok j = Ok j

    cut_by : (us : List Lexeme) (b : Bool) → test ts i ≡ b → (y : ℕ) → ok (behind_if b i) ≡ Ok y → Same ts us y → test us y ≡ false → ok (behind_if (test us i) i) ≡ Ok y
    cut_by us true t y e same follow =
        let here : i + 1 ≡ y = cc in
        let u : test us i ≡ true = seen ts us (subst (λ (j : ℕ). Same ts us j) (sym here) same) ∙ t in
        rw u e
    cut_by us false t y e same follow =
        let here : i ≡ y = cc in
        let u : test us i ≡ false = subst (λ (j : ℕ). test us j ≡ false) (sym here) follow in
        rw u e

-- ---- a token, and behind it a reading, or nothing

abbrev nothing_read : {A : Type 0} → A → ℕ → Reading (A × ℕ)
nothing_read none i us v = Ok (none, i)

pub optional_part : {A : Type 0} {If : Type 0} {E : List Lexeme → ℕ → Type 0} {least reserve step n i : ℕ} {short ts : List Lexeme} (r : ℕ) (passes : Lexeme → Bool) (l : Lexeme) → passes l ≡ true → (Free : List Lexeme → ℕ → Type 0)
    → ((us : List Lexeme) (j : ℕ) → Free us j → stands passes us j ≡ false) → ((us : List Lexeme) (j : ℕ) → Free us j → E us j) → reserve ≤ r → (least ≤ r) ⊎ ((x : Lexeme) → passes x ≡ true → opens x ≡ false) → (none : A) (k : ℕ → Reading (A × ℕ))
    → ((x : ℕ) → i + 1 ≤ x → Part If ends_at E least reserve short step ts n x (k x)) → Part If ends_at Free 0 r [] 0 ts n i (λ ts n. if stands passes ts i then k (i + 1) ts n else Ok (none, i))
optional_part {A} {If} {E} {least} {reserve} {step} {n} {i} {short} {ts} r passes l is_it Free stop in_ kept lead none k inner = record {
  told = optional_told passes i (inner (i + 1) (omega arith)).told (whole i (λ ts. none) (λ ts us same. refl));
  whole = record { reads = λ us v few has follow. reads us v follow };
  ended = λ if_. ended_by (λ us v. equal us v (stands passes us i) refl)
      (choice_ended (λ us. stands passes us i) (λ b t us w y e follow same. seen b us w y e follow) (λ t. chosen if_) (λ t. (tuned Free 0 r 0 (λ us j f. tt) (omega arith) (omega arith) (omega arith) none_part).ended if_));
}
  where
    none_part : Part If ends_at Anything 0 0 [] 0 ts n i (nothing_read none i)
    none_part = done_part i (λ ts. none) (λ ts us same. refl)

    behind : Reading (A × ℕ)
    behind = followed (λ ts n. token_read passes ts i) k

    calm : (least ≤ r) ⊎ Calm itself ts n i (λ ts n. token_read passes ts i)
    calm = elim lead [ inl few ↦ inl few | inr apart ↦ inr (token_calm passes apart ts n i) ]

    chosen : If → Ended ends_at Free r ts n i behind
    chosen if_ =
        let t : Part If itself Anything 0 0 (l ∷ []) 1 ts n i (λ ts n. token_read passes ts i) = token_part passes l is_it i in
        sequence_ended r (omega arith) kept if_ t.told (t.ended if_) (λ x far. tuned Free least reserve step in_ (omega arith) (omega arith) (omega arith) (inner x far)) meets_free calm

    equal : (us : List Lexeme) (v : ℕ) (b : Bool) → stands passes us i ≡ b → picked behind (nothing_read none i) us v (stands passes us i) ≡ picked (k (i + 1)) (nothing_read none i) us v (stands passes us i)
    equal us v true s = rw s refl
    equal us v false s = rw s refl

    reads : (us : List Lexeme) (v : ℕ) → Free us (i + 0) → (y : A × ℕ) × ((if stands passes us i then k (i + 1) us v else Ok (none, i)) ≡ Ok y) × (y.1 ≡ i + 0)
    reads us v follow =
        let same : i + 0 ≡ i = omega arith in
        let s : stands passes us i ≡ false = stop us i (subst (λ (j : ℕ). Free us j) same follow) in
        ((none, i), rw s refl, sym same)

    seen_token : (us : List Lexeme) (w : ℕ) (y : A × ℕ) (b : Bool) → and_then (if b then Ok (i + 1) else Err (stops.Stuck i)) (λ x. k x us w) ≡ Ok y → b ≡ true
    seen_token us w y true e = refl
    seen_token us w y false e = cc

    seen : (b : Bool) (us : List Lexeme) (w : ℕ) (y : A × ℕ) → picked behind (nothing_read none i) us w b ≡ Ok y → Free us y.1 → stands passes us i ≡ b
    seen true us w y e follow = seen_token us w y (stands passes us i) e
    seen false us w y e follow =
        let here : i ≡ y.1 = cc in
        stop us i (subst (λ (j : ℕ). Free us j) (sym here) follow)

-- ---- a reading that begins behind a token

pub behind_ended : {Y : Type 0} {If : Type 0} {at : Y → ℕ} {Free : List Lexeme → ℕ → Type 0} {least reserve step n : ℕ} {short ts : List Lexeme} {m : Reading Y} (i : ℕ) → If → (least ≤ reserve) ⊎ (stands opens ts i ≡ false)
    → Part If at Free least reserve short step ts n (i + 1) m → Ended at Free reserve ts n i m
behind_ended {Y} {If} {at} {Free} {least} {reserve} {step} {n} {short} {ts} {m} i if_ lead p = record {
  cut = (p.ended if_).cut;
  ends = λ k less e. ends_by k less e (nat_lt (i + 1) k) refl;
  deeper = (p.ended if_).deeper;
}
  where
    ends_by : (k : ℕ) → i < k → m ts n ≡ Err (stops.Stuck k) → (d : Bool) → nat_lt (i + 1) k ≡ d → Ending at Free reserve ts n m k
    ends_by k less e true d = (p.ended if_).ends k (grind (arith, nat_tests)) e
    ends_by k less e false d =
        let not_past : k ≤ i + 1 = grind (arith, nat_tests) in
        let here : i + 1 ≡ k = omega (arith, not_past, less) in
        record {
          more = short;
          enough = least;
          shallow = λ o h. enough_by here o h lead;
          ends = λ us v en same has follow. (
              let x : Has us (i + 1) short = subst (λ (j : ℕ). Has us j short) (sym here) has in
              let f : Free us (i + 1 + length short) = subst (λ (j : ℕ). Free us (j + length short)) (sym here) follow in
              let y = p.whole.reads us v en x f in
              (y.0, y.1, y.2 ∙ ap (λ (j : ℕ). j + length short) here));
        }
      where
        enough_by : i + 1 ≡ k → stands opens ts (k - 1) ≡ true → reserve ≤ n → (least ≤ reserve) ⊎ (stands opens ts i ≡ false) → least ≤ n
        enough_by here o h (inl few) = omega (arith, few, h)
        enough_by here o h (inr calm) =
            let before : k - 1 ≡ i = omega (arith, here) in
            absurd (true≢false (sym o ∙ ap (stands opens ts) before ∙ calm))

-- nothing is read
pub stuck_ended : {Y : Type 0} {at : Y → ℕ} {Free : List Lexeme → ℕ → Type 0} {reserve n : ℕ} {ts : List Lexeme} (i : ℕ) → Ended at Free reserve ts n i (λ ts n. Err (stops.Stuck i))
stuck_ended i = record {
  cut = λ us w y e same follow wide. cc;
  ends = λ k less e. (let here : i ≡ k = cc in absurd (omega (arith, less, here)));
  deeper = λ k e. cc;
}

-- a reading by the next token
pub next_ended : {Y : Type 0} {at : Y → ℕ} {Free : List Lexeme → ℕ → Type 0} {reserve n : ℕ} {ts : List Lexeme} (f : Lexeme → Reading Y) (i : ℕ) → Told (λ n. Unit {0}) at 1 i (λ us v. by_next f i (slice_get us i) us v)
    → ((l : Lexeme) → slice_get ts i ≡ Some l → Ended at Free reserve ts n i (f l)) → Ended at Free reserve ts n i (λ us v. by_next f i (slice_get us i) us v)
next_ended {Y} {at} {Free} {reserve} {n} {ts} f i told one = record {
  cut = λ us w y e same follow wide. (
      let far = told.further ts n tt y e in
      ap (λ (o : Option Lexeme). by_next f i o us w) (same_get ts us (at y) i (omega (arith, far)) same) ∙ cut_by us w y (slice_get ts i) refl e same follow wide);
  ends = λ k less e. ends_by k less (slice_get ts i) refl e;
  deeper = λ k e. deeper_by k (slice_get ts i) refl e;
}
  where
    cut_by : (us : List Lexeme) (w : ℕ) (y : Y) (o : Option Lexeme) → slice_get ts i ≡ o → by_next f i o ts n ≡ Ok y → Same ts us (at y) → Free us (at y) → n ≤ w → by_next f i o us w ≡ Ok y
    cut_by us w y None g e same follow wide = cc
    cut_by us w y (Some l) g e same follow wide = (one l g).cut us w y e same follow wide

    ends_by : (k : ℕ) → i < k → (o : Option Lexeme) → slice_get ts i ≡ o → by_next f i o ts n ≡ Err (stops.Stuck k) → Ending at Free reserve ts n (λ us v. by_next f i (slice_get us i) us v) k
    ends_by k less None g e = (let here : i ≡ k = cc in absurd (omega (arith, less, here)))
    ends_by k less (Some l) g e =
        let x = (one l g).ends k less e in
        record {
          more = x.more;
          enough = x.enough;
          shallow = x.shallow;
          ends = λ us v en same has follow. (
              let y = x.ends us v en same has follow in
              (y.0, ap (λ (o : Option Lexeme). by_next f i o us v) (same_get ts us k i less same ∙ g) ∙ y.1, y.2));
        }

    deeper_by : (k : ℕ) (o : Option Lexeme) → slice_get ts i ≡ o → by_next f i o ts n ≡ Err (stops.Deep k) → (w : ℕ) × ((v : ℕ) → w ≤ v → k < number_of at (by_next f i (slice_get ts i) ts v))
    deeper_by k None g e = cc
    deeper_by k (Some l) g e =
        let d = (one l g).deeper k e in
        (d.0, λ v en. subst (λ (o : Option Lexeme). k < number_of at (by_next f i o ts v)) (sym g) (d.1 v en))
