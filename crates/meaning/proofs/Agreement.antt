-- Agreement on the blocks before one.
use Rattle.std.proofs.Common.{◌≡◌, ℕ, suc, sym, ◌∙◌, arith}
use Rattle.shapes.specs.Tree.{Tree}
use Rattle.queries.specs.Table.{Table}
use Rattle.meaning.specs.Solutions.{Grades, Entry, AgreeBefore}
use Rattle.meaning.proofs.Sums.{below_suc}

module _ {G : Type 0} (t : Tree) (q : Table) (b : ℕ) where
  pub agree_sym : (v w : Grades G) → AgreeBefore t q b v w → AgreeBefore t q b w v
  agree_sym v w a c i x h e = sym (a c i x h e)

  pub agree_trans : (u v w : Grades G) → AgreeBefore t q b u v → AgreeBefore t q b v w → AgreeBefore t q b u w
  agree_trans u v w a a' c i x h e = a c i x h e ∙ a' c i x h e

  -- agreement over more blocks is agreement over fewer
  pub agree_fewer : (v w : Grades G) → AgreeBefore t q (suc b) v w → AgreeBefore t q b v w
  agree_fewer v w agree c i x h e = agree c i x (omega arith) e

  -- agreement before block b and at it
  pub agree_more : (v w : Grades G) → AgreeBefore t q b v w → ((i x : ℕ) → Entry q t b i x → v i x ≡ w i x) → AgreeBefore t q (suc b) v w
  agree_more v w before here c i x h e = below_suc (λ d. Entry q t d i x → v i x ≡ w i x) b (λ d l. before d i x l) (here i x) c h e
