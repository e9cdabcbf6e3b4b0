use Rattle.std.proofs.Common.{◌∙◌, ◌+◌, Bool, not, sym, ap, subst, arith}
use Rattle.std.specs.List.{list_any}
use Rattle.relation_calls.specs.Memos.{IsMatching, IsHolding}
use Rattle.relation_calls.specs.Outcomes.{is_alone, is_partnered}
use Rattle.relation_calls.proofs.FrameLaws.{match_kept, hold_kept}
use Rattle.relation_calls.proofs.stepping.keep_answer.Goals as goal

pub returns-in-When : goal.returns-in-When
returns-in-When c =
    record {
      told = λ program models formed told frame past.
          c.keep_match.ensures.told program models told
          (subst (λ (one : Bool). IsMatching program models c.args.last.key one) (sym (c.is_any_partnered-one.ensures ∙ ap (list_any is_partnered) c.as_slice.ensures))
          (match_kept program models formed c.args.last frame past c.in-When.is));
    }

pub returns : goal.returns
returns c =
    record {
      told = λ program models formed told frame past.
          let last = c.args.last in
          c.keep_hold.ensures.told program models told
          (subst (λ (alone : Bool). IsHolding program models last.key (record { holds = not alone; height = last.progress.height + 1 }))
          (sym (c.is_any_alone-holds.ensures ∙ ap (list_any is_alone) c.as_slice-in-Where.ensures))
          (hold_kept program models formed last frame past c.in-Where.is (last.progress.height + 1) (omega arith)));
    }
