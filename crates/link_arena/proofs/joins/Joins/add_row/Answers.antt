use Rattle.std.proofs.Common.{◌≡◌, ◌∙◌, ◌++◌, List, length, take, ap, arith, subst, sym}
use Rattle.std.proofs.lemmas.List.{take_at}
use Rattle.std.proofs.lemmas.Result.{IfOk-from_err}
use Rattle.link_arena.specs.declared.half.Half.{Half}
use Rattle.link_arena.specs.declared.half.Head.{Head}
use Rattle.link_arena.specs.Twins.{links, free_row, IsArena}
use Rattle.link_arena.specs.Lists.{list_at, free_count}
use Rattle.link_arena.proofs.joins.Joins.add_row.Goals as goal

pub returns-clause-view : goal.returns-clause-view
returns-clause-view c =
    let at : length c.args.self.now.halves ≡ c.half_count-at.result = sym c.half_count-at.ensures in
    c.thread_row.ensures.view
    ∙ (ap (links c.push_row.new.self.heads) (ap (take c.half_count-at.result) c.in_ok-push_row.ensures.ok ∙ take_at c.args.self.now.halves free_row c.half_count-at.result at)
    ∙ ap (λ (l : List Head). links l c.args.self.now.halves) c.push_row.ensures.heads)

pub thread_row-requires : goal.thread_row-requires
thread_row-requires c =
    let at : length c.args.self.now.halves ≡ c.half_count-at.result = sym c.half_count-at.ensures in
    let now : c.push_row.new.self.halves ≡ c.args.self.now.halves ++ free_row = c.in_ok-push_row.ensures.ok in
    let back : take c.half_count-at.result c.push_row.new.self.halves ≡ c.args.self.now.halves =
    ap (take c.half_count-at.result) now ∙ take_at c.args.self.now.halves free_row c.half_count-at.result at in
    record {
      arena = subst (λ (l : List Head). IsArena l (take c.half_count-at.result c.push_row.new.self.halves)) (sym c.push_row.ensures.heads)
          (subst (IsArena c.args.self.now.heads) (sym back) c.requires.arena);
      within = omega (arith, ap length c.push_row.ensures.heads, c.requires.within);
      is = now ∙ ap (λ (l : List Half). l ++ free_row) (sym back);
      len = ap length back ∙ at;
    }

pub returns-in_err-push_row-clause-arena : goal.returns-in_err-push_row-clause-arena
returns-in_err-push_row-clause-arena c =
    subst (λ (l : List Head). IsArena l c.push_row.new.self.halves) (sym c.push_row.ensures.heads) (subst (IsArena c.args.self.now.heads) (sym c.in_err-push_row.ensures.err) c.requires.arena)

pub returns-in_err-push_row-clause-view : goal.returns-in_err-push_row-clause-view
returns-in_err-push_row-clause-view c =
    ap (links c.push_row.new.self.heads) c.in_err-push_row.ensures.err ∙ ap (λ (l : List Head). links l c.args.self.now.halves) c.push_row.ensures.heads

pub returns-in_err-push_row-clause-room : goal.returns-in_err-push_row-clause-room
returns-in_err-push_row-clause-room c = IfOk-from_err c.from_residual.result _ c.from_residual.ensures.0

pub returns-clause-same : goal.returns-clause-same
returns-clause-same c = record {
  lists = c.thread_row.ensures.same.lists ∙ ap length c.push_row.ensures.heads;
  capacity = c.thread_row.ensures.same.capacity ∙ c.push_row.ensures.capacity;
}

pub returns-clause-free : goal.returns-clause-free
returns-clause-free c =
    let at : length c.args.self.now.halves ≡ c.half_count-at.result = sym c.half_count-at.ensures in
    let back : take c.half_count-at.result c.push_row.new.self.halves ≡ c.args.self.now.halves =
    ap (take c.half_count-at.result) c.in_ok-push_row.ensures.ok ∙ take_at c.args.self.now.halves free_row c.half_count-at.result at in
    let base : length (list_at c.push_row.new.self.heads (take c.half_count-at.result c.push_row.new.self.halves) 0) ≡ free_count c.args.self.now =
    ap (λ (l : List Half). length (list_at c.push_row.new.self.heads l 0)) back
    ∙ ap (λ (l : List Head). length (list_at l c.args.self.now.halves 0)) c.push_row.ensures.heads in
    omega (arith, base, c.thread_row.ensures.room)

pub returns-clause-room : goal.returns-clause-room
returns-clause-room c =
    let at : length c.args.self.now.halves ≡ c.half_count-at.result = sym c.half_count-at.ensures in
    let back : take c.half_count-at.result c.push_row.new.self.halves ≡ c.args.self.now.halves =
    ap (take c.half_count-at.result) c.in_ok-push_row.ensures.ok ∙ take_at c.args.self.now.halves free_row c.half_count-at.result at in
    let base : length (list_at c.push_row.new.self.heads (take c.half_count-at.result c.push_row.new.self.halves) 0) ≡ free_count c.args.self.now =
    ap (λ (l : List Half). length (list_at c.push_row.new.self.heads l 0)) back
    ∙ ap (λ (l : List Head). length (list_at l c.args.self.now.halves 0)) c.push_row.ensures.heads in
    omega (arith, base, c.thread_row.ensures.room)

pub returns-in_err-push_row-clause-same : goal.returns-in_err-push_row-clause-same
returns-in_err-push_row-clause-same c = record { lists = ap length c.push_row.ensures.heads; capacity = c.push_row.ensures.capacity }

pub returns-in_err-push_row-clause-free : goal.returns-in_err-push_row-clause-free
returns-in_err-push_row-clause-free c =
    omega (
      arith,
      ap (λ (l : List Half). length (list_at c.push_row.new.self.heads l 0)) c.in_err-push_row.ensures.err,
      ap (λ (l : List Head). length (list_at l c.args.self.now.halves 0)) c.push_row.ensures.heads,
    )
