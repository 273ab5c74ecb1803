use Rattle.vcm_console.proofs.LineRoom.{pushed, full}
use Rattle.vcm_console.proofs.line.InputLine.push.Goals as goal

pub returns-then-self-lt-ROOM : goal.returns-then-self-lt-ROOM
returns-then-self-lt-ROOM c = pushed c.self.inside.bytes c.args.self.now c.self.inside.len c.args.byte c.self.told c.if-self-lt-ROOM.true c.self.view_is

pub returns-else-self-lt-ROOM : goal.returns-else-self-lt-ROOM
returns-else-self-lt-ROOM c = full c.self.inside.bytes c.args.self.now c.self.inside.len c.args.byte c.self.told c.if-self-lt-ROOM.false c.self.view_is
