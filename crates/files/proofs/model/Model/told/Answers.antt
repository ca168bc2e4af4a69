use Rattle.std.proofs.Common.{subst, ◌∙◌, refl}
use Rattle.shapes.specs.DepthShapes.{HasDepths}
use Rattle.files.specs.Contents.{contents_of}
use Rattle.files.proofs.Models.{depths_fit, rows_whole}
use Rattle.files.proofs.model.Model.told.Goals as goal

pub returns : goal.returns
returns c =
    let contents = contents_of c.args.contents.now in
    let sound = c.requires.sound in record {
      shape = subst (λ ds. HasDepths ds c.in-Ok.shape) (c.requires.depths ∙ depths_fit c.args.room contents c.args.asked sound) (rw c.in-Ok.is at c.filled.ensures);
      query = (rw c.in-Ok-admitted.is at c.admitted.ensures) ∙ rw (c.deref.ensures.value, c.deref-2.ensures.value, rows_whole c.args.room contents c.args.asked sound) refl;
    }
