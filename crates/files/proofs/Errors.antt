-- What holds of an error holds of a result that is that error.
use Rattle.std.proofs.Common.{◌≡◌, Ok, Err, Result, sym, subst}
use Rattle.std.specs.Result.{IsErrAnd}

pub err_at : {T E : Type 0} (P : Result T E → Type 0) (result : Result T E) (why : E) → IsErrAnd result (λ e. e ≡ why) → P (Err why) → P result
err_at P (Ok x) why is p = absurd is
err_at P (Err e) why is p = subst (λ w. P (Err w)) (sym is) p
