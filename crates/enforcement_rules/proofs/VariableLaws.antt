-- The variables of a relation that an expression names are those among what it names.
use Rattle.std.proofs.Common.{◌≡◌, ◌<◌, ℕ, List, [], ◌∷◌, Bool, true, false, refl, sym, ap, ◌∙◌, subst, length, if◌then◌else◌}
use Rattle.std.specs.Prelude.{Contains, nat_lt}
use Rattle.std.proofs.lemmas.Bool.{ltb-true, lt-ltb}
use Rattle.mof_metamodel.proofs.PropLemmas.{to_flat_map, from_flat_map}
use Rattle.mof_metamodel.specs.declared.desc.ClassId.{ClassId}
use Rattle.qv_syntax.specs.declared.ty.Ty.{Ty}
use Rattle.qv_syntax.specs.declared.typed.Typed.{Typed}
use Rattle.qv_syntax.specs.declared.typed.Node.{Node, roll-Node, out-Node, out-roll-Node, roll-out-Node}
use Rattle.qv_syntax.specs.declared.typed.Node.TheVariants as nodes
use Rattle.qv_syntax.specs.declared.typed.Call.{Call}
use Rattle.qv_syntax.specs.declared.typed.Call.TheOpen as of
use Rattle.qv_syntax.specs.declared.typed.TypedInfix.{TypedInfix}
use Rattle.qv_syntax.specs.declared.typed.TypedPostfix.{TypedPostfix}
use Rattle.qv_syntax.specs.declared.program.Rel.{Rel}
use Rattle.qv_syntax.specs.Parts.{IsWithin, Names, CallsQuery}
use Rattle.enforcement_rules.specs.declared.mention.Mention.{Mention}
use Rattle.enforcement_rules.specs.declared.mention.Mention.TheVariants as mentions
use Rattle.enforcement_rules.specs.KnownVariables.{NamesOf}
use Rattle.enforcement_rules.specs.Mentions.{mentions_in, own_variable, variables_of}
use Rattle.enforcement_rules.proofs.ListLaws.{first_in, nothing_in, only_in}
use Rattle.enforcement_rules.proofs.MentionLaws.{own, mentions_listed, mentions_stand}

-- ---- an outer layer that is a variable

same_variable : (m n : ℕ) → mentions.Variable m ≡ mentions.Variable n → m ≡ n
same_variable m n e = cc

variable_layer : (d : of.Node-F Call Node Typed TypedInfix TypedPostfix) (v : ℕ) → Contains (own d) (mentions.Variable v) → d ≡ of.Variable v
variable_layer (of.Variable n) v among = ap (λ k. of.Variable k) (same_variable n v (only_in (mentions.Variable n) (mentions.Variable v) among))
variable_layer (of.Extent m c) v among = let e = only_in (mentions.Extent m) (mentions.Variable v) among in absurd (cc)
variable_layer (of.Query q args) v among = let e = only_in (mentions.Query q) (mentions.Variable v) among in absurd (cc)
variable_layer (of.Number value) v among = absurd (nothing_in (mentions.Variable v) among)
variable_layer (of.Str value) v among = absurd (nothing_in (mentions.Variable v) among)
variable_layer (of.Bool value) v among = absurd (nothing_in (mentions.Variable v) among)
variable_layer of.Null v among = absurd (nothing_in (mentions.Variable v) among)
variable_layer of.Invalid v among = absurd (nothing_in (mentions.Variable v) among)
variable_layer (of.EnumLiteral m e l) v among = absurd (nothing_in (mentions.Variable v) among)
variable_layer (of.Let n value body) v among = absurd (nothing_in (mentions.Variable v) among)
variable_layer (of.Chain first rest) v among = absurd (nothing_in (mentions.Variable v) among)
variable_layer (of.Not operand) v among = absurd (nothing_in (mentions.Variable v) among)
variable_layer (of.Negated operand) v among = absurd (nothing_in (mentions.Variable v) among)
variable_layer (of.Calls part calls) v among = absurd (nothing_in (mentions.Variable v) among)
variable_layer (of.If condition one other) v among = absurd (nothing_in (mentions.Variable v) among)
variable_layer (of.Coll kind elements) v among = absurd (nothing_in (mentions.Variable v) among)

out_variable : (v : ℕ) → out-Node (nodes.Variable v) ≡ of.Variable v
out_variable v = ap out-Node (sym (nodes.rolls-Variable v)) ∙ out-roll-Node (of.Variable v)

-- ---- names

pub named_listed : (e : Typed) (v : ℕ) → Names e v → Contains (mentions_in e) (mentions.Variable v)
named_listed e v (ty, within) =
    mentions_listed e (mentions.Variable v)
    (record { ty = ty; node = nodes.Variable v }, within, subst (λ d. Contains (own d) (mentions.Variable v)) (sym (out_variable v)) (first_in (mentions.Variable v) (mentions.Variable v) [] refl))

pub listed_named : (e : Typed) (v : ℕ) → Contains (mentions_in e) (mentions.Variable v) → Names e v
listed_named e v among =
    let found = mentions_stand e (mentions.Variable v) among in
    let inner : Typed = found.0 in
    let is : inner.node ≡ nodes.Variable v = sym (roll-out-Node inner.node) ∙ ap roll-Node (variable_layer (out-Node inner.node) v found.2) ∙ nodes.rolls-Variable v in
    (inner.ty, subst (λ n. IsWithin e (record { ty = inner.ty; node = n })) is found.1)

-- ---- those of the relation

own_there : (count v : ℕ) → v < count → Contains (own_variable count (mentions.Variable v)) v
own_there count v below = subst (λ b. Contains (if b then v ∷ [] else []) v) (sym (lt-ltb v count below)) (first_in v v [] refl)

own_is : (count : ℕ) (m : Mention) (v : ℕ) → Contains (own_variable count m) v → (m ≡ mentions.Variable v) × (v < count)
own_is count (mentions.Variable n) v among = by (nat_lt n count) refl among
  where
    by : (b : Bool) → nat_lt n count ≡ b → Contains (if b then n ∷ [] else []) v → (mentions.Variable n ≡ mentions.Variable v) × (v < count)
    by true is h = let same = only_in n v h in (ap (λ k. mentions.Variable k) same, subst (λ k. k < count) same (ltb-true n count is))
    by false is h = absurd (nothing_in v h)
own_is count (mentions.Query q) v among = absurd (nothing_in v among)
own_is count (mentions.Extent m) v among = absurd (nothing_in v among)

pub names_listed : (rel : Rel) (e : Typed) (v : ℕ) → NamesOf rel e v → Contains (variables_of (length rel.vars) e) v
names_listed rel e v names =
    to_flat_map (own_variable (length rel.vars)) (mentions_in e) (mentions.Variable v) v (named_listed e v names.names) (own_there (length rel.vars) v names.own)

pub listed_names : (rel : Rel) (e : Typed) (v : ℕ) → Contains (variables_of (length rel.vars) e) v → NamesOf rel e v
listed_names rel e v among =
    let found = from_flat_map (own_variable (length rel.vars)) (mentions_in e) v among in
    let is = own_is (length rel.vars) found.0 v found.2 in
    record { own = is.1; names = listed_named e v (subst (λ m. Contains (mentions_in e) m) is.0 found.1) }

-- ---- an outer layer that calls a query, or is an extent

same_query : (m n : ℕ) → mentions.Query m ≡ mentions.Query n → m ≡ n
same_query m n e = cc

query_layer : (d : of.Node-F Call Node Typed TypedInfix TypedPostfix) (q : ℕ) → Contains (own d) (mentions.Query q) → (args : List Typed) × (d ≡ of.Query q args)
query_layer (of.Query n args) q among = (args, ap (λ k. of.Query k args) (same_query n q (only_in (mentions.Query n) (mentions.Query q) among)))
query_layer (of.Variable n) q among = let e = only_in (mentions.Variable n) (mentions.Query q) among in absurd (cc)
query_layer (of.Extent m c) q among = let e = only_in (mentions.Extent m) (mentions.Query q) among in absurd (cc)
query_layer (of.Number value) q among = absurd (nothing_in (mentions.Query q) among)
query_layer (of.Str value) q among = absurd (nothing_in (mentions.Query q) among)
query_layer (of.Bool value) q among = absurd (nothing_in (mentions.Query q) among)
query_layer of.Null q among = absurd (nothing_in (mentions.Query q) among)
query_layer of.Invalid q among = absurd (nothing_in (mentions.Query q) among)
query_layer (of.EnumLiteral m e l) q among = absurd (nothing_in (mentions.Query q) among)
query_layer (of.Let n value body) q among = absurd (nothing_in (mentions.Query q) among)
query_layer (of.Chain first rest) q among = absurd (nothing_in (mentions.Query q) among)
query_layer (of.Not operand) q among = absurd (nothing_in (mentions.Query q) among)
query_layer (of.Negated operand) q among = absurd (nothing_in (mentions.Query q) among)
query_layer (of.Calls part calls) q among = absurd (nothing_in (mentions.Query q) among)
query_layer (of.If condition one other) q among = absurd (nothing_in (mentions.Query q) among)
query_layer (of.Coll kind elements) q among = absurd (nothing_in (mentions.Query q) among)

out_query : (q : ℕ) (args : List Typed) → out-Node (nodes.Query q args) ≡ of.Query q args
out_query q args = ap out-Node (sym (nodes.rolls-Query q args)) ∙ out-roll-Node (of.Query q args)

pub call_listed : (e : Typed) (q : ℕ) → CallsQuery e q → Contains (mentions_in e) (mentions.Query q)
call_listed e q (ty, args, within) =
    mentions_listed e (mentions.Query q)
    (record { ty = ty; node = nodes.Query q args }, within, subst (λ d. Contains (own d) (mentions.Query q)) (sym (out_query q args)) (first_in (mentions.Query q) (mentions.Query q) [] refl))

pub listed_call : (e : Typed) (q : ℕ) → Contains (mentions_in e) (mentions.Query q) → CallsQuery e q
listed_call e q among =
    let found = mentions_stand e (mentions.Query q) among in
    let inner : Typed = found.0 in
    let layer = query_layer (out-Node inner.node) q found.2 in
    let is : inner.node ≡ nodes.Query q layer.0 = sym (roll-out-Node inner.node) ∙ ap roll-Node layer.1 ∙ nodes.rolls-Query q layer.0 in
    (inner.ty, layer.0, subst (λ n. IsWithin e (record { ty = inner.ty; node = n })) is found.1)

same_extent : (m n : ℕ) → mentions.Extent m ≡ mentions.Extent n → m ≡ n
same_extent m n e = cc

extent_layer : (d : of.Node-F Call Node Typed TypedInfix TypedPostfix) (m : ℕ) → Contains (own d) (mentions.Extent m) → (class : ClassId) × (d ≡ of.Extent m class)
extent_layer (of.Extent n c) m among = (c, ap (λ k. of.Extent k c) (same_extent n m (only_in (mentions.Extent n) (mentions.Extent m) among)))
extent_layer (of.Variable n) m among = let e = only_in (mentions.Variable n) (mentions.Extent m) among in absurd (cc)
extent_layer (of.Query n args) m among = let e = only_in (mentions.Query n) (mentions.Extent m) among in absurd (cc)
extent_layer (of.Number value) m among = absurd (nothing_in (mentions.Extent m) among)
extent_layer (of.Str value) m among = absurd (nothing_in (mentions.Extent m) among)
extent_layer (of.Bool value) m among = absurd (nothing_in (mentions.Extent m) among)
extent_layer of.Null m among = absurd (nothing_in (mentions.Extent m) among)
extent_layer of.Invalid m among = absurd (nothing_in (mentions.Extent m) among)
extent_layer (of.EnumLiteral n e l) m among = absurd (nothing_in (mentions.Extent m) among)
extent_layer (of.Let n value body) m among = absurd (nothing_in (mentions.Extent m) among)
extent_layer (of.Chain first rest) m among = absurd (nothing_in (mentions.Extent m) among)
extent_layer (of.Not operand) m among = absurd (nothing_in (mentions.Extent m) among)
extent_layer (of.Negated operand) m among = absurd (nothing_in (mentions.Extent m) among)
extent_layer (of.Calls part calls) m among = absurd (nothing_in (mentions.Extent m) among)
extent_layer (of.If condition one other) m among = absurd (nothing_in (mentions.Extent m) among)
extent_layer (of.Coll kind elements) m among = absurd (nothing_in (mentions.Extent m) among)

out_extent : (m : ℕ) (class : ClassId) → out-Node (nodes.Extent m class) ≡ of.Extent m class
out_extent m class = ap out-Node (sym (nodes.rolls-Extent m class)) ∙ out-roll-Node (of.Extent m class)

-- the extent of a class in the model stands in the expression
abbrev pub HasExtent : Typed → ℕ → Type 0
HasExtent e m = (ty : Ty) × (class : ClassId) × IsWithin e (record { ty = ty; node = nodes.Extent m class })

pub extent_listed : (e : Typed) (m : ℕ) → HasExtent e m → Contains (mentions_in e) (mentions.Extent m)
extent_listed e m (ty, class, within) =
    mentions_listed e (mentions.Extent m)
    (record { ty = ty; node = nodes.Extent m class }, within, subst (λ d. Contains (own d) (mentions.Extent m)) (sym (out_extent m class)) (first_in (mentions.Extent m) (mentions.Extent m) [] refl))

pub listed_extent : (e : Typed) (m : ℕ) → Contains (mentions_in e) (mentions.Extent m) → HasExtent e m
listed_extent e m among =
    let found = mentions_stand e (mentions.Extent m) among in
    let inner : Typed = found.0 in
    let layer = extent_layer (out-Node inner.node) m found.2 in
    let is : inner.node ≡ nodes.Extent m layer.0 = sym (roll-out-Node inner.node) ∙ ap roll-Node layer.1 ∙ nodes.rolls-Extent m layer.0 in
    (inner.ty, layer.0, subst (λ n. IsWithin e (record { ty = inner.ty; node = n })) is found.1)
