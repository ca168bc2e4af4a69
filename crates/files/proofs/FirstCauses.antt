-- Of the causes to refuse a file, one only is the first.
use Rattle.std.proofs.Common.{◌≡◌, ℕ, List, inl, inr, ◌∙◌, sym, arith}
use Rattle.files.specs.declared.tables.Room.{Room}
use Rattle.files.specs.Causes.{Before, FirstCause, Sooner}
use Rattle.files.specs.Contents.{Contents}

sooner_once : (n m : ℕ) → Sooner n m → Sooner m n → n ≡ m
sooner_once n m (inl e) (inl f) = e ∙ sym f
sooner_once n m (inl e) (inr f) = absurd (f.0 e)
sooner_once n m (inr e) (inl f) = absurd (e.0 f)
sooner_once n m (inr e) (inr f) = omega arith

first_once : (n m l k : ℕ) → Before n l m k → Before m k n l → (n ≡ m) × (l ≡ k)
first_once n m l k (inl a) (inl b) = absurd (omega arith)
first_once n m l k (inl a) (inr b) = absurd (omega (arith, b.0))
first_once n m l k (inr a) (inl b) = absurd (omega (arith, a.0))
first_once n m l k (inr a) (inr b) = (sooner_once n m a.1 b.1, a.0)

pub one_first_cause : {room : Room} {c : Contents} {rest : List ℕ} {n m l k : ℕ} → FirstCause room c rest n l → FirstCause room c rest m k → (n ≡ m) × (l ≡ k)
one_first_cause {n = n} {m = m} {l = l} {k = k} f g = first_once n m l k (f.first m k g.cause) (g.first n l f.cause)
