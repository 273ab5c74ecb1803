use Rattle.vcm_hardware.proofs.writing.put_ball.Goals as goal

pub returns : goal.returns
returns c = rw c.if-is_own.false (rw (c.as_bytes.ensures, c.ball_box.ensures) at c.put_own.ensures)
