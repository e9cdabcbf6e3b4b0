-- Small repairs computed: nothing is demanded; two objects hold a key; a table is made, one is kept and one goes.
use Rattle.std.specs.Prelude.{◌≡◌, ◌+◌, ℕ, cond, is_none, List, [], ◌∷◌, ◌++◌, map, codes, Option, None, Some}
use Rattle.std.specs.List.{cons_option, filter_map, flat_map, position}
use Rattle.std.specs.Option.{option_map, option_map_or, option_and_then}
use Rattle.std.proofs.Common.{refl, ap, ◌∙◌, arith}
use Rattle.std.proofs.lemmas.Fmt.{decimal_digit}
use Rattle.object_tables.specs.declared.value.Value.TheVariants as values
use Rattle.object_tables.specs.Models.{ModelData}
use Rattle.qv_syntax.specs.declared.program.Program.{Program}
use Rattle.qv_syntax.specs.declared.program.Item.{Item}
use Rattle.qv_syntax.specs.declared.program.ItemValue.{ItemValue, roll-ItemValue}
use Rattle.qv_syntax.specs.declared.program.ItemValue.TheOpen as items
use Rattle.qv_syntax.specs.declared.ty.Ty.TheVariants as types
use Rattle.qvtr_semantics.specs.declared.datum.Datum.TheVariants.{Val}
use Rattle.qvtr_semantics.specs.SmallModels.{rdb, var, item, name_item, template, table_items, table_tmpl, package_to_schema, class_to_table}
use Rattle.repair_semantics.specs.declared.term.Term.{Term}
use Rattle.repair_semantics.specs.declared.term.TermValue.{out-TermValue, out-roll-TermValue}
use Rattle.repair_semantics.specs.declared.term.TermValue.TheOpen as of
use Rattle.repair_semantics.specs.declared.demand.Demand.{Demand}
use Rattle.repair_semantics.specs.Terms.{same_term}
use Rattle.repair_semantics.specs.TargetItems.{ContentPart, TemplatePart, ItemPart, content_part, item_part, template_part, variable_of, parts}
use Rattle.repair_semantics.specs.Images.{image, term_image}
use Rattle.repair_semantics.specs.Claims.{Held, Fact, Claim, claims_of}
use Rattle.repair_semantics.specs.Conflicts.{held_in, fact_of}
use Rattle.repair_semantics.specs.Deletions.{classes_in, managed_classes, images_of, stays}
use Rattle.repair_semantics.specs.CandidateObjects.{CandidateObject, fresh_id, fresh_terms, number_of, term_number}
use Rattle.repair_semantics.specs.Candidates.{held_by_number, fact_by_number, claims_by_number, candidate_with, candidate_by, candidate}
use Rattle.repair_semantics.specs.SmallRepairs.{two_relations, text_value, term_value, schema, table, demand, with_remark, remark_alone, twice, one_of_two, one_demand, shop, shop_term, order_term, product_term, shop_terms, shop_demands, shop_with, shop_repaired}
use Rattle.repair_semantics.proofs.TermLaws.{image_of_value, image_is, image_of_datum, image_of_term}
use Rattle.repair_semantics.proofs.TieLaws.{ties_are_one}
use Rattle.repair_semantics.proofs.ItemLaws.{content_of, item_of, of_expression, of_template, item_is, template_is}

-- ---- the target templates as lists of items

abbrev pub item_with : ℕ → ContentPart → ItemPart
item_with p c = item_part (record { prop = record { 0 = p }; value = c })

abbrev pub template_with : ℕ → ℕ → List ItemPart → TemplatePart
template_with v c ps = template_part (record { var = v; class = record { 0 = c }; items = ps })

pub item_asks : (p : ℕ) (value : ItemValue) (c : ContentPart) → content_of value ≡ c → item_of (item p value) ≡ item_with p c
item_asks p value c h = item_is (record { 0 = p }) value ∙ ap (item_with p) h

pub template_asks : (v c : ℕ) (its : List Item) (ps : List ItemPart) → map item_of its ≡ ps → parts (template v c its) ≡ template_with v c ps
template_asks v c its ps h = template_is v (record { 0 = c }) its ∙ ap (template_with v c) h

abbrev pub named : ℕ → ItemPart
named number = item_with 0 (content_part (items.Expr (var number types.Str)))

pub names : (number : ℕ) → item_of (name_item number) ≡ named number
names number = item_asks 0 (roll-ItemValue (items.Expr (var number types.Str))) (content_part (items.Expr (var number types.Str))) (of_expression (var number types.Str))

pub schema_parts : parts (template 2 1 (name_item 0 ∷ [])) ≡ template_with 2 1 (named 0 ∷ [])
schema_parts = template_asks 2 1 (name_item 0 ∷ []) (named 0 ∷ []) (ap (λ i. i ∷ []) (names 0))

abbrev pub within : ItemPart
within = item_with 2 (content_part (items.Nested (template_with 4 1 [])))

schema_within : item_of (item 2 (roll-ItemValue (items.Nested (template 4 1 [])))) ≡ within
schema_within = item_asks 2 (roll-ItemValue (items.Nested (template 4 1 []))) (content_part (items.Nested (template_with 4 1 [])))
    (of_template (template 4 1 []) ∙ ap (λ p. content_part (items.Nested p)) (template_asks 4 1 [] [] refl))

pub table_parts : parts table_tmpl ≡ template_with 3 2 (within ∷ named 0 ∷ [])
table_parts = template_asks 3 2 table_items (within ∷ named 0 ∷ []) (ap (λ i. i ∷ map item_of (name_item 0 ∷ [])) schema_within ∙ ap (λ i. within ∷ i ∷ []) (names 0))

-- ---- managed classes: schemas and tables

abbrev managed_by : TemplatePart → TemplatePart → List ℕ
managed_by p q =
    classes_in two_relations package_to_schema (filter_map (λ i. variable_of i.content) p.items)
    ++ (classes_in two_relations class_to_table (filter_map (λ i. variable_of i.content) q.items) ++ [])

pub managed : managed_classes two_relations ≡ 1 ∷ 2 ∷ []
managed = ap (λ p. managed_by p (parts table_tmpl)) schema_parts ∙ ap (managed_by (template_with 2 1 (named 0 ∷ []))) table_parts

-- ---- nothing is demanded: schemas and tables go, the remark stays

pub nothing_demanded : candidate two_relations with_remark [] ≡ remark_alone
nothing_demanded = ap (λ classes. candidate_with two_relations with_remark (stays with_remark classes []) [] []) managed

-- ---- two objects hold the key: the first one is the image, the other one goes with its table

abbrev image_by : ModelData → Option (Held ℕ) → Option ℕ
image_by m h = term_image two_relations m (record { class = record { 0 = 1 }; keys = h ∷ [] })

schema_image : (m : ModelData) (name : List ℕ) → image two_relations m (schema name) ≡ image_by m (Some (Held.datum (Val 0 (values.Str name))))
schema_image m name = image_is two_relations m (record { 0 = 1 }) (text_value name ∷ []) ∙ ap (image_by m) (image_of_datum two_relations m (Val 0 (values.Str name)))

pub first_is_image : image two_relations twice (schema (codes "a")) ≡ Some 0
first_is_image = schema_image twice (codes "a")

abbrev twice_by : List ℕ → Option ℕ → ModelData
twice_by classes o = candidate_with two_relations twice (stays twice classes (cons_option o []))
    (claims_by_number rdb (λ t. number_of two_relations twice (schema (codes "a") ∷ []) (option_map_or (λ n. CandidateObject.old n) o (CandidateObject.fresh t))) one_demand)
    (cond (is_none o) (schema (codes "a") ∷ []) [])

pub one_of_two_stays : candidate two_relations twice one_demand ≡ one_of_two
unfolding Rattle.repair_semantics.specs.declared.term.TermValue.TheViews.out-TermValue denote.Hole.Carrier.out Rattle.repair_semantics.specs.declared.term.TermValue.TheViews.roll-TermValue denote.Hole.Carrier.roll
one_of_two_stays = ap (twice_by (managed_classes two_relations)) first_is_image ∙ ap (λ classes. twice_by classes (Some 0)) managed

-- ---- a table is made, one is kept with its note, and one goes

nested_image : (name : List ℕ) → image_of_value two_relations shop (term_value (schema name)) ≡ option_map (λ n. Held.object n) (image_by shop (Some (Held.datum (Val 0 (values.Str name)))))
nested_image name = image_of_term two_relations shop (schema name) ∙ ap (option_map (λ n. Held.object n)) (schema_image shop name)

abbrev table_by : Option (Held ℕ) → Option (Held ℕ) → Option ℕ
table_by s n = term_image two_relations shop (record { class = record { 0 = 2 }; keys = s ∷ n ∷ [] })

table_image : (s name : List ℕ) → image two_relations shop (table (schema s) name)
    ≡ table_by (option_map (λ n. Held.object n) (image_by shop (Some (Held.datum (Val 0 (values.Str s)))))) (Some (Held.datum (Val 0 (values.Str name))))
table_image s name =
    image_is two_relations shop (record { 0 = 2 }) (term_value (schema s) ∷ text_value name ∷ [])
    ∙ ap (λ h. table_by h (image_of_value two_relations shop (text_value name))) (nested_image s)
    ∙ ap (table_by (option_map (λ n. Held.object n) (image_by shop (Some (Held.datum (Val 0 (values.Str s))))))) (image_of_datum two_relations shop (Val 0 (values.Str name)))

shop_is : image two_relations shop shop_term ≡ Some 0
shop_is = schema_image shop (codes "shop")

order_is_kept : image two_relations shop order_term ≡ Some 1
order_is_kept = table_image (codes "shop") (codes "Order")

product_is_missing : image two_relations shop product_term ≡ None
product_is_missing = table_image (codes "shop") (codes "Product")

abbrev fresh_by : Option ℕ → Option ℕ → Option ℕ → List Term
fresh_by a b c = cond (is_none a) (shop_term ∷ cond (is_none b) (order_term ∷ cond (is_none c) (product_term ∷ []) []) (cond (is_none c) (product_term ∷ []) []))
    (cond (is_none b) (order_term ∷ cond (is_none c) (product_term ∷ []) []) (cond (is_none c) (product_term ∷ []) []))

product_is_fresh : fresh_terms two_relations shop shop_terms ≡ product_term ∷ []
product_is_fresh =
    ap (λ a. fresh_by a (image two_relations shop order_term) (image two_relations shop product_term)) shop_is
    ∙ ap (λ b. fresh_by (Some 0) b (image two_relations shop product_term)) order_is_kept
    ∙ ap (λ c. fresh_by (Some 0) (Some 1) c) product_is_missing

abbrev numbered_by : Term → Option ℕ → Option ℕ
numbered_by t o = number_of two_relations shop shop_terms (option_map_or (λ n. CandidateObject.old n) o (CandidateObject.fresh t))

number_of_shop : term_number two_relations shop shop_terms shop_term ≡ Some 0
number_of_shop = ap (numbered_by shop_term) shop_is

number_of_order : term_number two_relations shop shop_terms order_term ≡ Some 1
number_of_order = ap (numbered_by order_term) order_is_kept

number_of_product : term_number two_relations shop shop_terms product_term ≡ Some 3
number_of_product =
    ap (numbered_by product_term) product_is_missing
    ∙ ap (λ ts. option_map (λ k. 3 + k) (position (same_term product_term) ts)) product_is_fresh
    ∙ ap (λ b. option_map (λ k. 3 + k) (position (λ t. b) (product_term ∷ []))) ((ties_are_one product_term product_term).1 refl)

images_are : images_of two_relations shop shop_terms ≡ 0 ∷ 1 ∷ []
images_are =
    ap (λ a. cons_option a (cons_option (image two_relations shop order_term) (cons_option (image two_relations shop product_term) []))) shop_is
    ∙ ap (λ b. 0 ∷ cons_option b (cons_option (image two_relations shop product_term) [])) order_is_kept
    ∙ ap (λ c. 0 ∷ 1 ∷ cons_option c []) product_is_missing

-- ---- claims, demand by demand

fact_is : (number : Term → Option ℕ) (d : Demand) (o : ℕ) (h : Held ℕ) → number d.owner ≡ Some o → held_by_number number (held_in (out-TermValue d.value)) ≡ Some h
    → fact_by_number number (fact_of d) ≡ Some (record { owner = o; prop = d.prop.0; holds = h })
fact_is number d o h owner holds =
    ap (λ x. option_and_then (λ n. option_map (λ k. record { owner = n; prop = d.prop.0; holds = k }) (held_by_number number (held_in (out-TermValue d.value)))) x) owner
    ∙ ap (option_map (λ k. record { owner = o; prop = d.prop.0; holds = k })) holds

text_held : (number : Term → Option ℕ) (s : List ℕ) → held_by_number number (held_in (out-TermValue (text_value s))) ≡ Some (Held.datum (Val 0 (values.Str s)))
text_held number s = ap (λ x. held_by_number number (held_in x)) (out-roll-TermValue (of.Val (Val 0 (values.Str s))))

term_held : (number : Term → Option ℕ) (t : Term) (n : ℕ) → number t ≡ Some n → held_by_number number (held_in (out-TermValue (term_value t))) ≡ Some (Held.object n)
term_held number t n is = ap (λ x. held_by_number number (held_in x)) (out-roll-TermValue (of.Term t)) ∙ ap (option_map (λ k. Held.object k)) is

claims_go_on : (number : Term → Option ℕ) (d : Demand) (ds : List Demand) (f : Fact ℕ) (rest : List (Claim ℕ)) → fact_by_number number (fact_of d) ≡ Some f
    → claims_by_number rdb number ds ≡ rest → claims_by_number rdb number (d ∷ ds) ≡ claims_of rdb f ++ rest
claims_go_on number d ds f rest fact later =
    ap (λ x. flat_map (claims_of rdb) (cons_option x (filter_map (λ e. fact_by_number number (fact_of e)) ds))) fact
    ∙ ap (λ cs. claims_of rdb f ++ cs) later

abbrev text_fact : ℕ → List ℕ → Fact ℕ
text_fact o s = record { owner = o; prop = 0; holds = Held.datum (Val 0 (values.Str s)) }

abbrev link_fact : ℕ → ℕ → Fact ℕ
link_fact o b = record { owner = o; prop = 2; holds = Held.object b }

abbrev number : Term → Option ℕ
number = term_number two_relations shop shop_terms

text_claimed : (e : ℕ) (t : Term) (o : ℕ) (s : List ℕ) (ds : List Demand) (rest : List (Claim ℕ)) → number t ≡ Some o → claims_by_number rdb number ds ≡ rest
    → claims_by_number rdb number (demand e t 0 (text_value s) ∷ ds) ≡ claims_of rdb (text_fact o s) ++ rest
text_claimed e t o s ds rest is later =
    claims_go_on number (demand e t 0 (text_value s)) ds (text_fact o s) rest (fact_is number (demand e t 0 (text_value s)) o (Held.datum (Val 0 (values.Str s))) is (text_held number s)) later

link_claimed : (e : ℕ) (t : Term) (o : ℕ) (ds : List Demand) (rest : List (Claim ℕ)) → number t ≡ Some o → claims_by_number rdb number ds ≡ rest
    → claims_by_number rdb number (demand e t 2 (term_value shop_term) ∷ ds) ≡ claims_of rdb (link_fact o 0) ++ rest
link_claimed e t o ds rest is later =
    claims_go_on number (demand e t 2 (term_value shop_term)) ds (link_fact o 0) rest (fact_is number (demand e t 2 (term_value shop_term)) o (Held.object 0) is (term_held number shop_term 0 number_of_shop)) later

abbrev product_claims : List (Claim ℕ)
product_claims = claims_of rdb (link_fact 3 0) ++ (claims_of rdb (text_fact 3 (codes "Product")) ++ [])

abbrev order_claims : List (Claim ℕ)
order_claims = claims_of rdb (link_fact 1 0) ++ (claims_of rdb (text_fact 1 (codes "Order")) ++ product_claims)

abbrev shop_claims : List (Claim ℕ)
shop_claims = claims_of rdb (text_fact 0 (codes "shop")) ++ order_claims

abbrev last_demand : List Demand
last_demand = demand 2 product_term 0 (text_value (codes "Product")) ∷ []

abbrev product_demands : List Demand
product_demands = demand 2 product_term 2 (term_value shop_term) ∷ last_demand

abbrev order_last : List Demand
order_last = demand 1 order_term 0 (text_value (codes "Order")) ∷ product_demands

abbrev order_demands : List Demand
order_demands = demand 1 order_term 2 (term_value shop_term) ∷ order_last

products_claimed : claims_by_number rdb number product_demands ≡ product_claims
products_claimed = link_claimed 2 product_term 3 last_demand (claims_of rdb (text_fact 3 (codes "Product")) ++ []) number_of_product
    (text_claimed 2 product_term 3 (codes "Product") [] [] number_of_product refl)

orders_claimed : claims_by_number rdb number order_demands ≡ order_claims
orders_claimed = link_claimed 1 order_term 1 order_last (claims_of rdb (text_fact 1 (codes "Order")) ++ product_claims) number_of_order
    (text_claimed 1 order_term 1 (codes "Order") product_demands product_claims number_of_order products_claimed)

claims_are : claims_by_number rdb number shop_demands ≡ shop_claims
claims_are = text_claimed 0 shop_term 0 (codes "shop") order_demands order_claims number_of_shop orders_claimed

-- ---- the model by its parts

candidate_is : (program : Program) (m : ModelData) (ds : List Demand) (terms : List Term) (classes images : List ℕ) (claims : List (Claim ℕ)) (fresh : List Term)
    → managed_classes program ≡ classes → images_of program m terms ≡ images → claims_by_number m.meta (term_number program m terms) ds ≡ claims → fresh_terms program m terms ≡ fresh
    → candidate_by program m ds terms ≡ candidate_with program m (stays m classes images) claims fresh
candidate_is program m ds terms classes images claims fresh a b c d =
    ap (λ x. candidate_with program m (stays m x (images_of program m terms)) (claims_by_number m.meta (term_number program m terms) ds) (fresh_terms program m terms)) a
    ∙ ap (λ x. candidate_with program m (stays m classes x) (claims_by_number m.meta (term_number program m terms) ds) (fresh_terms program m terms)) b
    ∙ ap (λ x. candidate_with program m (stays m classes images) x (fresh_terms program m terms)) c
    ∙ ap (λ x. candidate_with program m (stays m classes images) claims x) d

shop_computed : candidate_with two_relations shop (stays shop (1 ∷ 2 ∷ []) (0 ∷ 1 ∷ [])) shop_claims (product_term ∷ []) ≡ shop_with (fresh_id 0)
unfolding denote.Hole.Carrier.out denote.Hole.Carrier.roll
shop_computed = refl

pub shop_is_repaired : candidate_by two_relations shop shop_demands shop_terms ≡ shop_repaired
shop_is_repaired = candidate_is two_relations shop shop_demands shop_terms (1 ∷ 2 ∷ []) (0 ∷ 1 ∷ []) shop_claims (product_term ∷ []) managed images_are claims_are product_is_fresh ∙ shop_computed
    ∙ ap (λ digits. shop_with (codes "n" ++ digits)) (decimal_digit 0 (omega arith))
