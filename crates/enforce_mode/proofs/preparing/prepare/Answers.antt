use Rattle.std.specs.Prelude.{◌≡◌, length, IfOk, IfErr}
use Rattle.std.proofs.Common.{◌∙◌, ap, sym, subst, arith, List}
use Rattle.repair_semantics.specs.declared.term.Term.{Term}
use Rattle.repair_semantics.specs.declared.demand.Demand.{Demand}
use Rattle.repair_semantics.specs.Demands.{demanded_terms}
use Rattle.repair_semantics.specs.CandidateObjects.{fresh_terms}
use Rattle.repair_semantics.specs.Candidates.{candidate}
use Rattle.candidate_laws.specs.Placing.{Placeable}
use Rattle.enforce_mode.specs.Made.{IsAgainst}
use Rattle.enforce_mode.proofs.MadeLaws.{few_by, fresh_within}
use Rattle.enforce_mode.proofs.PlacingLaws.{placeable, numbers_once}
use Rattle.enforce_mode.proofs.preparing.prepare.Goals as goal

pub term_numbers-requires-clause-once : goal.term_numbers-requires-clause-once
term_numbers-requires-clause-once c =
    let n = c.numbered-numbered in
    numbers_once n.result.table.now n.result.terms.now c.args.demands.now.list (n.ensures.terms ∙ c.requires.demands.are.terms)

pub returns-in_default-clause-against : goal.returns-in_default-clause-against
returns-in_default-clause-against c =
    let n = c.numbered-numbered in
    let program = c.args.program.now in
    let m = c.args.target.now in
    let ds = c.args.demands.now.list in
    let is = n.ensures.terms ∙ c.requires.demands.are.terms in
    let few = few_by program m n.result.table.now n.result.terms.now (demanded_terms ds) c.term_count-count.result is c.term_count-count.ensures.count
    c.term_count-count.ensures.few c.requires.numbers in
    let many = rw c.in_default.is at c.in_ok-numbers.ensures.many in
    let fresh = ap (λ (ts : List Term). length (fresh_terms program m ts)) is in
    let within = fresh_within program m ds few in
    omega (arith, many, fresh, within)

pub planned_edits-requires : goal.planned_edits-requires
planned_edits-requires c =
    let n = c.numbered-numbered in
    let program = c.args.program.now in
    let m = c.args.target.now in
    let ds = c.args.demands.now.list in
    let is = n.ensures.terms ∙ c.requires.demands.are.terms in
    let few = few_by program m n.result.table.now n.result.terms.now (demanded_terms ds) c.term_count-count.result is c.term_count-count.ensures.count
    c.term_count-count.ensures.few c.requires.numbers in
    record {
      placed = record {
        placeable = subst (Placeable program m) (sym n.ensures.list) (placeable program m c.args.demands.now c.requires.demands c.requires.valid few);
        demanded = is ∙ ap demanded_terms (sym n.ensures.list);
        within = n.ensures.list_within;
      };
      numbered = record {
        numbers_are = rw c.in-Some.is at c.in_ok-numbers.ensures.objects;
        images_are = rw c.in-Some.is at c.in_ok-numbers.ensures.images;
        fresh_are = rw c.in-Some.is at c.in_ok-numbers.ensures.fresh;
        within = rw c.in-Some.is at c.in_ok-numbers.ensures.fresh_within;
        few = rw c.in-Some.is at c.in_ok-numbers.ensures.few;
      };
      room = c.requires.numbers;
    }

pub returns-clause-made : goal.returns-clause-made
returns-clause-made c =
    subst (λ (ds : List Demand). IfOk c.planned_edits.result (λ e. e.made ≡ candidate c.args.program.now c.args.target.now ds))
    c.numbered-numbered.ensures.list c.planned_edits.ensures.made

pub returns-clause-against : goal.returns-clause-against
returns-clause-against c =
    subst (λ (ds : List Demand). IfErr c.planned_edits.result (IsAgainst (candidate c.args.program.now c.args.target.now ds)))
    c.numbered-numbered.ensures.list c.planned_edits.ensures.against
