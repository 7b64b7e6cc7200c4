-- A frame of more than 192 bytes is not written; the entries that another carries are a part of it.
use Rattle.frame_vectors.proofs.VectorLaws.{tried-none, tried-some, tried-room}
use Rattle.frame_vectors.proofs.vector.written.Goals as goal

pub returns-then-frame_len-gt192 : goal.returns-then-frame_len-gt192
returns-then-frame_len-gt192 c = tried-none c.args.log.now c.args.area.now c.args.m _ c.frame_len.ensures c.if-frame_len-gt192.true

pub write_frame-requires : goal.write_frame-requires
write_frame-requires c = tried-room c.args.log.now c.args.area.now c.args.m _ c.frame_len.ensures c.if-frame_len-gt192.false c.requires.1 c.requires.0

pub returns : goal.returns
returns c = tried-some c.args.log.now c.args.area.now c.args.m _ c.frame_len.ensures c.if-frame_len-gt192.false c.write_frame.ensures
