-- What lists of values leave open can be ended.
use Rattle.std.proofs.Common.{◌≡◌, ℕ, zero, suc, ◌+◌, ◌<◌, ◌≤◌, inl, Bool, true, false, List, [], ◌∷◌, ◌++◌, length, Result, Ok, Err, ap, sym, ◌∙◌, refl, subst, arith}
use Rattle.std.specs.Prelude.{codes, if◌then◌else◌}
use Rattle.ql_lex.specs.Lexed.{Lexeme}
use Rattle.ql_lex.specs.Lexemes.{is_sign, stands}
use Rattle.ocl_parser.specs.Completion.{mark}
use Rattle.ocl_parser.specs.Readings.{Read, and_then, token_read}
use Rattle.ocl_parser.specs.declared.halt.Stop.{Stop}
use Rattle.ocl_parser.specs.declared.halt.Stop.TheVariants as stops
use Rattle.qvtr_parser.specs.Lists.{any_read, comma_at, each_read, left, more_read, some_read}
use Rattle.qvtr_parser.proofs.FoundLaws.{inverted}
use Rattle.qvtr_parser.proofs.LoopLaws.{each_ends}
use Rattle.qvtr_parser.proofs.Told.{Levels, Reading, Same, Told, followed, loosen, same_less, same_stands}
use Rattle.qvtr_parser.proofs.ToldLists.{Listed, Test, alike_listed, any_told, ends_at, listed_told, test_of_token, unfinished}
use Rattle.qvtr_parser.proofs.Ended.{Anything, Ended, Part, Whole, done_part, ended_by, meets_end, meets_free, part_by, sequence_ended, sequence_part, token_part, tuned}
use Rattle.qvtr_parser.proofs.EndedParts.{choice_ended, picked}

-- Values one behind the other, where each value is read as `one` says, with the tokens that stand before it: which tokens end the list,
-- and that one more follows in each text in which one is read there.
pub record Run {A : Type 0} (go : List Lexeme → ℕ → Bool) (end : List Lexeme → ℕ → ℕ) (read : List Lexeme → ℕ → ℕ → Read A) (one : ℕ → Reading (A × ℕ)) (Free : List Lexeme → ℕ → Type 0) : Type 0 where
  pub d : ℕ
  pub listed : Listed (λ n. Unit {0}) go d end read
  pub same : (us : List Lexeme) (v j : ℕ) → go us j ≡ true → read us v j ≡ one j us v
  pub stop : (us : List Lexeme) (j : ℕ) → Free us j → (go us j ≡ false) × (end us j ≡ j)
  pub over : (us : List Lexeme) (j : ℕ) → Free us (end us j) → go us j ≡ false
  pub last : (ts us : List Lexeme) (j : ℕ) → Same ts us (end ts j) → Free us (end ts j) → end us j ≡ end ts j
  pub goes : (ts us : List Lexeme) (w j : ℕ) (x : A × ℕ) → go ts j ≡ true → one j us w ≡ Ok x → Same ts us (j + 1) → go us j ≡ true

abbrev pub list_read : {A : Type 0} → (List Lexeme → ℕ → Bool) → (List Lexeme → ℕ → ℕ) → (List Lexeme → ℕ → ℕ → Read A) → List A → ℕ → Reading (List A × ℕ)
list_read go end read before i ts n = and_then (each_read (go ts) (read ts n) (left ts i) before i) (λ xs. Ok (xs.0, end ts xs.1))

-- what is read behind one more value
abbrev rest_read : {A : Type 0} → (List Lexeme → ℕ → Bool) → (List Lexeme → ℕ → ℕ) → (List Lexeme → ℕ → ℕ → Read A) → List A → A × ℕ → Reading (List A × ℕ)
rest_read go end read before x = list_read go end read (before ++ x.0 ∷ []) x.1

abbrev none_read : {A : Type 0} → (List Lexeme → ℕ → ℕ) → List A → ℕ → Reading (List A × ℕ)
none_read end before i ts n = Ok (before, end ts i)

pub levels_same : {Y : Type 0} (n : ℕ) (r : Result Y Stop) → Levels n n r
levels_same n (Ok y) = omega arith
levels_same n (Err (stops.Stuck k)) = omega arith
levels_same n (Err (stops.Deep k)) = refl

unrolled : {A : Type 0} {go : List Lexeme → ℕ → Bool} {end : List Lexeme → ℕ → ℕ} {read : List Lexeme → ℕ → ℕ → Read A} {one : ℕ → Reading (A × ℕ)} {Free : List Lexeme → ℕ → Type 0} → Run go end read one Free
    → (before : List A) (i : ℕ) (us : List Lexeme) (v : ℕ) → picked (followed (one i) (rest_read go end read before)) (none_read end before i) us v (go us i) ≡ list_read go end read before i us v
unfolding each_read
unrolled {A} {go} {end} {read} {one} {Free} r before i us v = by (left us i) refl (go us i) refl
  where
    finish : Read (List A) → Read (List A)
    finish q = and_then q (λ xs. Ok (xs.0, end us xs.1))

    by_one : (c : ℕ) → left us i ≡ suc c → (q : Read A) → read us v i ≡ q → and_then q (λ x. rest_read go end read before x us v) ≡ finish (and_then q (λ x. each_read (go us) (read us v) c (before ++ x.0 ∷ []) x.1))
    by_one c l (Ok x) e =
        let far = (r.listed.one i).further us v tt x e in
        let few : length us ≤ x.1 + c = omega (arith, l, far) in
        alike_listed go r.d end read r.listed us us v v tt c (left us x.1) (before ++ x.0 ∷ []) x.1 few (omega arith) refl (levels_same v _)
    by_one c l (Err s) e = refl

    by : (c : ℕ) → left us i ≡ c → (b : Bool) → go us i ≡ b → picked (followed (one i) (rest_read go end read before)) (none_read end before i) us v b ≡ finish (each_read (go us) (read us v) c before i)
    by c l false g = ap finish (sym (each_ends (go us) (read us v) c before i g))
    by zero l true g = absurd (omega (arith, l, r.listed.before us i g))
    by (suc c) l true g =
        ap (λ (q : Read A). and_then q (λ x. rest_read go end read before x us v)) (sym (r.same us v i g)) ∙ by_one c l (read us v i) refl ∙ sym (ap finish (rw g refl))

list_whole : {A : Type 0} {go : List Lexeme → ℕ → Bool} {end : List Lexeme → ℕ → ℕ} {read : List Lexeme → ℕ → ℕ → Read A} {one : ℕ → Reading (A × ℕ)} {Free : List Lexeme → ℕ → Type 0} → Run go end read one Free
    → (before : List A) (i : ℕ) → Whole ends_at Free 0 [] i (list_read go end read before i)
list_whole {A} {go} {end} {read} {one} {Free} r before i = record { reads = λ us v few has follow. reads us v follow }
  where
    reads : (us : List Lexeme) (v : ℕ) → Free us (i + 0) → (y : List A × ℕ) × (list_read go end read before i us v ≡ Ok y) × (y.1 ≡ i + 0)
    reads us v follow =
        let same : i + 0 ≡ i = omega arith in
        let s = r.stop us i (subst (λ (j : ℕ). Free us j) same follow) in
        ((before, end us i), ap (λ (q : Read (List A)). and_then q (λ xs. Ok (xs.0, end us xs.1))) (each_ends (go us) (read us v) (left us i) before i s.0), s.1 ∙ sym same)

-- one more value follows where one is read
list_seen : {A : Type 0} {go : List Lexeme → ℕ → Bool} {end : List Lexeme → ℕ → ℕ} {read : List Lexeme → ℕ → ℕ → Read A} {one : ℕ → Reading (A × ℕ)} {Free : List Lexeme → ℕ → Type 0} → Run go end read one Free
    → (before : List A) (i : ℕ) (ts : List Lexeme) → Told (λ n. Unit {0}) ends_at 1 i (one i) → (b : Bool) → go ts i ≡ b → (us : List Lexeme) (w : ℕ) (y : List A × ℕ)
    → picked (followed (one i) (rest_read go end read before)) (none_read end before i) us w b ≡ Ok y → Free us y.1 → (i < y.1 → Same ts us (i + 1)) → go us i ≡ b
list_seen {A} {go} {end} {read} {one} {Free} r before i ts told false g us w y e follow same =
    let here : end us i ≡ y.1 = cc in
    r.over us i (subst (λ (j : ℕ). Free us j) (sym here) follow)
list_seen {A} {go} {end} {read} {one} {Free} r before i ts told true g us w y e follow same =
    let x = inverted (one i us w) (λ x. rest_read go end read before x us w) y e in
    let far : i + 1 ≤ x.0.1 = told.further us w tt x.0 x.1 in
    let rest : Told (λ n. Unit {0}) ends_at 0 x.0.1 (rest_read go end read before x.0) = listed_told go r.d end read r.listed (before ++ x.0.0 ∷ []) x.0.1 in
    let behind : x.0.1 + 0 ≤ y.1 = rest.further us w tt y x.2 in
    r.goes ts us w i x.0 g x.1 (same (omega (arith, far, behind)))

none_ended : {A : Type 0} {go : List Lexeme → ℕ → Bool} {end : List Lexeme → ℕ → ℕ} {read : List Lexeme → ℕ → ℕ → Read A} {one : ℕ → Reading (A × ℕ)} {Free : List Lexeme → ℕ → Type 0} → Run go end read one Free
    → (before : List A) (reserve n i : ℕ) (ts : List Lexeme) → Ended ends_at Free reserve ts n i (none_read end before i)
none_ended {A} {go} {end} {read} {one} {Free} r before reserve n i ts = record {
  cut = λ us w y e same follow wide. (
      let here : end ts i ≡ y.1 = cc in
      let s : Same ts us (end ts i) = subst (λ (j : ℕ). Same ts us j) (sym here) same in
      let f : Free us (end ts i) = subst (λ (j : ℕ). Free us j) (sym here) follow in
      ap (λ (j : ℕ). Ok (before, j)) (r.last ts us i s f) ∙ e);
  ends = λ k less e. cc;
  deeper = λ k e. cc;
}

list_ended : {A : Type 0} {If : Type 0} {go : List Lexeme → ℕ → Bool} {end : List Lexeme → ℕ → ℕ} {read : List Lexeme → ℕ → ℕ → Read A} {one : ℕ → Reading (A × ℕ)} {Free E : List Lexeme → ℕ → Type 0} {least reserve n : ℕ} {short ts : List Lexeme} → Run go end read one Free
    → ((us : List Lexeme) (j : ℕ) → Free us j → E us j) → ((j : ℕ) → Part If ends_at E least reserve short 1 ts n j (one j)) → If → (fuel : ℕ) (before : List A) (i : ℕ) → length ts ≤ i + fuel
    → Ended ends_at Free reserve ts n i (list_read go end read before i)
list_ended {A} {If} {go} {end} {read} {one} {Free} {E} {least} {reserve} {n} {short} {ts} r in_ element if_ zero before i enough =
    ended_by (unrolled r before i) (choice_ended (λ ts. go ts i) (list_seen r before i ts (element i).told) (λ g. absurd (omega (arith, enough, r.listed.before ts i g))) (λ g. none_ended r before reserve n i ts))
list_ended {A} {If} {go} {end} {read} {one} {Free} {E} {least} {reserve} {n} {short} {ts} r in_ element if_ (suc fuel) before i enough =
    ended_by (unrolled r before i) (choice_ended (λ ts. go ts i) (list_seen r before i ts (element i).told)
    (λ g. sequence_ended reserve (omega arith) (omega arith) if_ (element i).told ((element i).ended if_) (λ x far. record {
      told = listed_told go r.d end read r.listed (before ++ x.0 ∷ []) x.1;
      whole = list_whole r (before ++ x.0 ∷ []) x.1;
      ended = λ so. list_ended r in_ element so fuel (before ++ x.0 ∷ []) x.1 (omega (arith, enough, far));
    }) (meets_end in_) (inl (omega arith)))
    (λ g. none_ended r before reserve n i ts))

pub list_part : {A : Type 0} {If : Type 0} {go : List Lexeme → ℕ → Bool} {end : List Lexeme → ℕ → ℕ} {read : List Lexeme → ℕ → ℕ → Read A} {one : ℕ → Reading (A × ℕ)} {Free E : List Lexeme → ℕ → Type 0} {least reserve n : ℕ} {short ts : List Lexeme} → Run go end read one Free
    → ((us : List Lexeme) (j : ℕ) → Free us j → E us j) → ((j : ℕ) → Part If ends_at E least reserve short 1 ts n j (one j)) → (before : List A) (i : ℕ)
    → Part If ends_at Free 0 reserve [] 0 ts n i (list_read go end read before i)
list_part {A} {If} {go} {end} {read} {one} {Free} {E} {least} {reserve} {n} {short} {ts} r in_ element before i = record {
  told = listed_told go r.d end read r.listed before i;
  whole = list_whole r before i;
  ended = λ if_. list_ended r in_ element if_ (length ts) before i (omega arith);
}

-- ---- where the list ends where no value follows

pub plain_run : {A : Type 0} (go : List Lexeme → ℕ → Bool) → Test go → (d : ℕ) → d ≤ 1 → (read : List Lexeme → ℕ → ℕ → Read A) → ((j : ℕ) → Told (λ n. Unit {0}) ends_at 1 (j + d) (λ ts n. read ts n j)) → (one : ℕ → Reading (A × ℕ))
    → ((us : List Lexeme) (v j : ℕ) → go us j ≡ true → read us v j ≡ one j us v) → (Free : List Lexeme → ℕ → Type 0) → ((us : List Lexeme) (j : ℕ) → Free us j → go us j ≡ false) → Run go (λ ts j. j) read one Free
plain_run {A} go test d small read told one same Free stop = record {
  d = d;
  listed = record {
    one = told;
    there = λ ts j g. omega (arith, small, test.there ts j g);
    before = test.there;
    goes = λ ts us j g same. test.seen ts us j (same_less ts us (j + 1) (j + d + 1) (omega arith) same) ∙ g;
    stays = λ ts us j g same. (test.seen ts us j same ∙ g, refl);
    on = λ ts j. omega arith;
    within = λ ts j start. start;
  };
  same = same;
  stop = λ us j f. (stop us j f, refl);
  over = stop;
  last = λ ts us j same f. refl;
  goes = λ ts us w j x g e same. test.seen ts us j same ∙ g;
}

-- values each of which begins with the token that is tested
pub each_part : {A : Type 0} {If : Type 0} {E : List Lexeme → ℕ → Type 0} {least reserve n : ℕ} {short ts : List Lexeme} (go : List Lexeme → ℕ → Bool) → Test go → (read : List Lexeme → ℕ → ℕ → Read A) → (Free : List Lexeme → ℕ → Type 0)
    → ((us : List Lexeme) (j : ℕ) → Free us j → go us j ≡ false) → ((us : List Lexeme) (j : ℕ) → Free us j → E us j) → ((j : ℕ) → Part If ends_at E least reserve short 1 ts n j (λ ts n. read ts n j)) → (before : List A) (i : ℕ)
    → Part If ends_at Free 0 reserve [] 0 ts n i (λ ts n. each_read (go ts) (read ts n) (left ts i) before i)
each_part {A} {If} {E} {least} {reserve} {n} {short} {ts} go test read Free stop in_ element before i =
    part_by (λ ts n. unfinished (each_read (go ts) (read ts n) (left ts i) before i)) (list_part (plain_run go test 0 (omega arith) read
    (λ j. subst (λ (k : ℕ). Told (λ n. Unit {0}) ends_at 1 k (λ ts n. read ts n j)) (omega arith) (element j).told) (λ j ts n. read ts n j) (λ us v j g. refl) Free stop) in_ element before i)

-- ---- values with commas between them

abbrev pub comma : Lexeme
comma = mark (codes ",")

abbrev behind_comma : {A : Type 0} → (List Lexeme → ℕ → ℕ → Read A) → ℕ → Reading (A × ℕ)
behind_comma read j = followed (λ ts n. token_read (is_sign (codes ",")) ts j) (λ x ts n. read ts n x)

pub more_part : {A : Type 0} {If : Type 0} {E : List Lexeme → ℕ → Type 0} {reserve n : ℕ} {short ts : List Lexeme} (read : List Lexeme → ℕ → ℕ → Read A) → (Free : List Lexeme → ℕ → Type 0)
    → ((us : List Lexeme) (j : ℕ) → Free us j → comma_at us j ≡ false) → ((us : List Lexeme) (j : ℕ) → Free us j → E us j) → ((j : ℕ) → Part If ends_at E 0 reserve short 1 ts n j (λ ts n. read ts n j)) → (before : List A) (i : ℕ)
    → Part If ends_at Free 0 reserve [] 0 ts n i (λ ts n. more_read ts (read ts n) before i)
more_part {A} {If} {E} {reserve} {n} {short} {ts} read Free stop in_ element before i =
    part_by (λ ts n. unfinished (more_read ts (read ts n) before i)) (list_part (plain_run comma_at (test_of_token (is_sign (codes ","))) 1 (omega arith) (λ ts n j. read ts n (j + 1))
    (λ j. (element (j + 1)).told) (behind_comma read) (λ us v j g. rw g refl) Free stop) in_ one before i)
  where
    one : (j : ℕ) → Part If ends_at E 0 reserve (comma ∷ short) 1 ts n j (behind_comma read j)
    one j = (
        let p = sequence_part 0 reserve (omega arith) (omega arith) (omega arith) (omega arith) (token_part (is_sign (codes ",")) comma refl j) (λ x far. element x) meets_free (inl (omega arith)) in
        record { told = loosen 1 (omega arith) p.told; whole = p.whole; ended = p.ended })

pub some_part : {A : Type 0} {If : Type 0} {E : List Lexeme → ℕ → Type 0} {reserve n : ℕ} {short ts : List Lexeme} (read : List Lexeme → ℕ → ℕ → Read A) → (Free : List Lexeme → ℕ → Type 0)
    → ((us : List Lexeme) (j : ℕ) → Free us j → comma_at us j ≡ false) → ((us : List Lexeme) (j : ℕ) → Free us j → E us j) → ((j : ℕ) → Part If ends_at E 0 reserve short 1 ts n j (λ ts n. read ts n j)) → (i : ℕ)
    → Part If ends_at Free 0 reserve (short ++ []) 1 ts n i (λ ts n. some_read ts (read ts n) i)
some_part {A} {If} {E} {reserve} {n} {short} {ts} read Free stop in_ element i =
    sequence_part 0 reserve (omega arith) (omega arith) (omega arith) (omega arith) (element i) (λ x far. more_part read Free stop in_ element (x.0 ∷ []) x.1) (meets_end in_) (inl (omega arith))

-- none before this sign, or these
pub closed_part : {A : Type 0} {If : Type 0} {reserve n i : ℕ} {short ts : List Lexeme} {o : Reading (List A × ℕ)} (close : List ℕ) (Free : List Lexeme → ℕ → Type 0) → ((us : List Lexeme) (j : ℕ) → Free us j → stands (is_sign close) us j ≡ true)
    → Told (λ n. Unit {0}) ends_at 0 i (λ ts n. if stands (is_sign close) ts i then Ok ([], i) else o ts n) → Part If ends_at Free 0 reserve short 1 ts n i o
    → Part If ends_at Free 0 reserve [] 0 ts n i (λ ts n. if stands (is_sign close) ts i then Ok ([], i) else o ts n)
closed_part {A} {If} {reserve} {n} {i} {short} {ts} {o} close Free closes told some = record {
  told = told;
  whole = record { reads = λ us v few has follow. reads us v follow };
  ended = λ if_. choice_ended (λ ts. stands (is_sign close) ts i) (λ b t us w y e follow same. seen b t us w y e follow same)
      (λ t. (tuned Free 0 reserve 0 (λ us j f. tt) (omega arith) (omega arith) (omega arith) none_part).ended if_) (λ t. some.ended if_);
}
  where
    none : Reading (List A × ℕ)
    none us v = Ok ([], i)

    none_part : Part If ends_at Anything 0 0 [] 0 ts n i none
    none_part = done_part i (λ ts. []) (λ ts us same. refl)

    reads : (us : List Lexeme) (v : ℕ) → Free us (i + 0) → (y : List A × ℕ) × ((if stands (is_sign close) us i then Ok ([], i) else o us v) ≡ Ok y) × (y.1 ≡ i + 0)
    reads us v follow =
        let same : i + 0 ≡ i = omega arith in
        let c : stands (is_sign close) us i ≡ true = closes us i (subst (λ (j : ℕ). Free us j) same follow) in
        (([], i), rw c refl, sym same)

    seen : (b : Bool) → stands (is_sign close) ts i ≡ b → (us : List Lexeme) (w : ℕ) (y : List A × ℕ) → picked none o us w b ≡ Ok y → Free us y.1 → (i < y.1 → Same ts us (i + 1)) → stands (is_sign close) us i ≡ b
    seen true t us w y e follow same =
        let here : i ≡ y.1 = cc in
        closes us i (subst (λ (j : ℕ). Free us j) (sym here) follow)
    seen false t us w y e follow same =
        let far = some.told.further us w tt y e in
        same_stands (is_sign close) ts us (i + 1) i (omega arith) (same (omega (arith, far))) ∙ t

pub any_part : {A : Type 0} {If : Type 0} {E : List Lexeme → ℕ → Type 0} {reserve n : ℕ} {short ts : List Lexeme} (close : List ℕ) (read : List Lexeme → ℕ → ℕ → Read A) → (Free : List Lexeme → ℕ → Type 0)
    → ((us : List Lexeme) (j : ℕ) → Free us j → stands (is_sign close) us j ≡ true) → ((us : List Lexeme) (j : ℕ) → Free us j → comma_at us j ≡ false) → ((us : List Lexeme) (j : ℕ) → Free us j → E us j)
    → ((j : ℕ) → Part If ends_at E 0 reserve short 1 ts n j (λ ts n. read ts n j)) → (i : ℕ)
    → Part If ends_at Free 0 reserve [] 0 ts n i (λ ts n. any_read ts close (read ts n) i)
any_part {A} {If} {E} {reserve} {n} {short} {ts} close read Free closes stop in_ element i =
    closed_part close Free closes (any_told close read (λ j. (element j).told) i) (some_part read Free stop in_ element i)
