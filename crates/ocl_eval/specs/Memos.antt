-- What is remembered of an evaluation: the values of calls of queries.
use Rattle.std.specs.Prelude.{◌≡◌, ◌≤◌, ℕ, Some}
use Rattle.std.specs.BTreeMap.{get}
use Rattle.qvtr_semantics.specs.declared.out.Out.{Out}
use Rattle.ocl_eval.specs.declared.world.World.{World}
use Rattle.ocl_eval.specs.declared.query_call.QueryCall.{QueryCall}
use Rattle.ocl_eval.specs.declared.memo.Memo.{Memo}
use Rattle.ocl_eval.specs.declared.memo.Remembered.{Remembered}
use Rattle.ocl_eval.specs.QueryOrder.{call_order}
use Rattle.ocl_eval.specs.Worlds.{with_calls, queries_of}

-- the value of a call, where so many calls may still be made within one another
abbrev pub call_value : World → ℕ → QueryCall → Out
call_value w n call = queries_of (with_calls w n) call.query call.args

-- the value is that of the call with the least number of calls with which it was found, and with any more
abbrev pub IsRemembered : World → QueryCall → Remembered → Type 0
IsRemembered w call kept = (n : ℕ) → kept.least ≤ n → kept.out ≡ call_value w n call

-- each value that is remembered is that of its call
abbrev pub IsTold : World → Memo → Type 0
IsTold w memo = (call : QueryCall) (kept : Remembered) → get call_order memo.values call ≡ Some kept → IsRemembered w call kept
