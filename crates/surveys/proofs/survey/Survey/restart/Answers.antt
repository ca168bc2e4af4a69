use Rattle.std.proofs.Common.{◌≡◌, ℕ, ◌*◌, ◌<◌, Bool, true, false, List, Option, refl, rules}
use Rattle.queries.specs.Queries.{table_of}
use Rattle.queries.specs.Table.{Table, Reaches, Says}
use Rattle.surveys.specs.declared.survey.Survey.{Survey}
use Rattle.surveys.specs.declared.survey.Work.{Work}
use Rattle.surveys.specs.Resets.{Releases, with_flags}
use Rattle.surveys.proofs.Resets.{resets_like}
use Rattle.surveys.proofs.survey.Survey.restart.Goals as goal

says_yes : (b : Bool) (P : Type 0) → Says b P → P → b ≡ true
says_yes true P says p = refl
says_yes false P says p = absurd (says.1 p)

-- a survey that differs in its flags alone
module _ (v w : Survey) (flags : List Bool) (e : w ≡ with_flags v flags) where
  counted : (current : Option Work) → ◌≡◌ {A = Survey} (record { nodes = w.nodes; tags = w.tags; terms = w.terms; blocks = w.blocks; settled = w.settled; current = current }) (record { nodes = v.nodes; tags = v.tags; terms = v.terms; blocks = v.blocks; settled = w.settled; current = current })
  counted current = rw e refl

  released_as : (q : Table) (tag : ℕ) (current : Option Work) (waiting waiting' : List ℕ) → Releases q tag (w.terms * w.nodes) w.current current waiting waiting' → Releases q tag (v.terms * v.nodes) v.current current waiting waiting'
  released_as q tag current waiting waiting' h = rw e at h

pub returns : goal.returns
returns g c =
    let q = table_of c.args.query.now in
    let v = c.args.self.now in
    let w = c.unsettle.new.self in
    let said : (b : ℕ) → b < v.blocks → Says (c.reset_blocks.ensures.0 b) (Reaches q c.args.tag b) = λ b h. let p = c.reset_blocks.ensures.1 b h in search rules in
    record {
      counts = counted v w w.settled c.unsettle.ensures.rest c.release-self.result;
      settled = c.unsettle.ensures.flags;
      values = resets_like g.G.Grade.kind q v.nodes _ (λ b. (b < v.blocks) × Reaches q c.args.tag b) (λ b h. (h.0, (said b h.0).0 (rw h.1 tt))) (λ b h. (h.0, says_yes _ _ (said b h.0) h.1)) c.args.values.now c.reset_blocks.new.values c.reset_blocks.ensures.2;
      current = released_as v w w.settled c.unsettle.ensures.rest q c.args.tag c.release-self.result c.args.waiting.now c.release-self.new.waiting c.release-self.ensures;
    }
