-- What admitted queries keep besides.
use Rattle.std.proofs.Common.{ℕ, ◌<◌, length}
use Rattle.queries.specs.Table.{Table, Admitted, block_of}
use Rattle.queries.proofs.Kept.{in_some_block}

-- every term is dealt into a block
pub block_stands : {q : Table} → Admitted q → (i : ℕ) → i < length q.terms → block_of q i < length q.blocks
block_stands {q} = in_some_block q
