-- The four maps that a table of links tells.
use Rattle.std.specs.Prelude.{ℕ, cond, List, length, Some, None, Option, ◌==◌, slice_index_or}
use Rattle.shapes.specs.declared.axis.Axis.{Axis}
use Rattle.shapes.specs.declared.axis.Axis.TheVariants.{First, Next, Owner, Previous}
use Rattle.shapes.specs.declared.links.Links.{Links}
use Rattle.shapes.specs.Tree.{Tree}

-- 65,535 is no link
abbrev pub link : ℕ → Option ℕ
link n = cond (n == 65535) None (Some n)

abbrev pub led_by : Links → Axis → Option ℕ
led_by row First = link row.first
led_by row Next = link row.next
led_by row Owner = link row.owner
led_by row Previous = link row.previous

abbrev pub no_links : Links
no_links = record { first = 65535; next = 65535; owner = 65535; previous = 65535 }

abbrev pub linked_tree : List Links → Tree
linked_tree rows = record {
  count = length rows;
  first = λ x. link (slice_index_or rows x no_links).first;
  next = λ x. link (slice_index_or rows x no_links).next;
  owner = λ x. link (slice_index_or rows x no_links).owner;
  previous = λ x. link (slice_index_or rows x no_links).previous;
}
