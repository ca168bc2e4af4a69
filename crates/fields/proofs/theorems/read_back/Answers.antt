use Rattle.std.proofs.Common.{◌≡◌, length, sym, subst}
use Rattle.fields.specs.Fields.{field, Shows}
use Rattle.fields.proofs.Columns.{length_field, field_shows, field_tells}
use Rattle.fields.proofs.theorems.read_back.Goals as goal

pub returns : goal.returns
returns c w n m some narrow room = (
  λ (s : Shows (field w n) m).
      let wide : length (field w n) ≡ w = length_field w n some room narrow in
      field_tells w m n narrow (rw wide at s.room) room (sym (rw wide at s.written)),
  λ e. subst (Shows (field w n)) (sym e) (field_shows w n some room narrow),
)
