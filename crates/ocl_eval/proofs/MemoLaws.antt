-- What is remembered of values: one more that is right leaves all right.
use Rattle.std.specs.Prelude.{◌≡◌, Bool, true, false, Some}
use Rattle.std.specs.BTreeMap.{get, Updates, is_at}
use Rattle.std.proofs.Common.{refl, sym, subst, ◌∙◌, cond}
use Rattle.std.proofs.lemmas.Map.Views.{tells_apart}
use Rattle.std.proofs.lemmas.Option.{same_Some}
use Rattle.ocl_eval.specs.declared.world.World.{World}
use Rattle.ocl_eval.specs.declared.query_call.QueryCall.{QueryCall}
use Rattle.ocl_eval.specs.declared.memo.Memo.{Memo}
use Rattle.ocl_eval.specs.declared.memo.Remembered.{Remembered}
use Rattle.ocl_eval.specs.Memos.{IsRemembered, IsTold}
use Rattle.ocl_eval.specs.QueryOrder.{call_order}
use Rattle.ocl_eval.proofs.QueryOrderLaws.{one_call}

pub more_told : (w : World) (old new : Memo) (call : QueryCall) (kept : Remembered) → Updates call_order old.values new.values call (Some kept) → IsTold w old → IsRemembered w call kept → IsTold w new
more_told w old new call kept updates told is other found at = by (is_at (call_order call) other) refl (sym (updates.0 other) ∙ at)
  where
    by : (x : Bool) → is_at (call_order call) other ≡ x → cond x (Some kept) (get call_order old.values other) ≡ Some found → IsRemembered w other found
    by true same at = subst (IsRemembered w other) (same_Some kept found at) (subst (λ c. IsRemembered w c kept) (tells_apart one_call call other same) is)
    by false same at = told other found at
