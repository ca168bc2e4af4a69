use Rattle.shapes.specs.DepthShapes.{depth_shape_tree}
use Rattle.shapes.specs.Mirrors.{mirror}
use Rattle.files.specs.Contents.{contents_of}
use Rattle.files.specs.Tables.{lists_of, room_of}
use Rattle.files.proofs.Models.{as_many_nodes, room_for, marks_stand, term_there}
use Rattle.files.proofs.model.Model.list_by_hand.Goals as goal

pub settle-requires-clause-room : goal.settle-requires-clause-room
settle-requires-clause-room g c =
    let contents = contents_of c.args.contents.now in
    let tree = depth_shape_tree c.args.self.shape in
    room_for (room_of (lists_of c.args.tables.now)) contents c.args.asked c.requires.sound tree _ (as_many_nodes contents c.args.self c.requires.model) c.requires.model.query

pub settle-requires-clause-marks : goal.settle-requires-clause-marks
settle-requires-clause-marks g c =
    let contents = contents_of c.args.contents.now in
    let tree = depth_shape_tree c.args.self.shape in
    rw c.deref.ensures.value (marks_stand (room_of (lists_of c.args.tables.now)) contents c.args.asked c.requires.sound tree _ (as_many_nodes contents c.args.self c.requires.model) c.requires.model.query _ c.requires.grades)

pub settle-requires-clause-asked : goal.settle-requires-clause-asked
settle-requires-clause-asked g c =
    let contents = contents_of c.args.contents.now in
    let tree = depth_shape_tree c.args.self.shape in
    term_there (room_of (lists_of c.args.tables.now)) contents c.args.asked c.requires.sound tree _ (as_many_nodes contents c.args.self c.requires.model) c.requires.model.query

pub settle-requires-in-Mirrored-clause-room : goal.settle-requires-in-Mirrored-clause-room
settle-requires-in-Mirrored-clause-room g c =
    let contents = contents_of c.args.contents.now in
    let tree = mirror (depth_shape_tree c.over-shape.result.shape) in
    room_for (room_of (lists_of c.args.tables.now)) contents c.args.asked c.requires.sound tree _ (rw c.over-shape.ensures.inner (as_many_nodes contents c.args.self c.requires.model)) c.requires.model.query

pub settle-requires-in-Mirrored-clause-marks : goal.settle-requires-in-Mirrored-clause-marks
settle-requires-in-Mirrored-clause-marks g c =
    let contents = contents_of c.args.contents.now in
    let tree = mirror (depth_shape_tree c.over-shape.result.shape) in
    rw c.deref-in-Mirrored.ensures.value (marks_stand (room_of (lists_of c.args.tables.now)) contents c.args.asked c.requires.sound tree _ (rw c.over-shape.ensures.inner (as_many_nodes contents c.args.self c.requires.model)) c.requires.model.query _ c.requires.grades)

pub settle-requires-in-Mirrored-clause-asked : goal.settle-requires-in-Mirrored-clause-asked
settle-requires-in-Mirrored-clause-asked g c =
    let contents = contents_of c.args.contents.now in
    let tree = mirror (depth_shape_tree c.over-shape.result.shape) in
    term_there (room_of (lists_of c.args.tables.now)) contents c.args.asked c.requires.sound tree _ (rw c.over-shape.ensures.inner (as_many_nodes contents c.args.self c.requires.model)) c.requires.model.query
