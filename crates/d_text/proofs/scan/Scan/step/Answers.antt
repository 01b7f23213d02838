use Rattle.d_text.proofs.scan.Scan.step.Goals as goal

pub returns-in-Digit-clause-room : goal.returns-in-Digit-clause-room
returns-in-Digit-clause-room c = c.digit.ensures.room

pub returns-in-Sign-clause-room : goal.returns-in-Sign-clause-room
returns-in-Sign-clause-room c = c.sign.ensures.room

pub returns-in-Point-clause-room : goal.returns-in-Point-clause-room
returns-in-Point-clause-room c = c.point.ensures.room

pub returns-in-Mark-clause-room : goal.returns-in-Mark-clause-room
returns-in-Mark-clause-room c = c.mark.ensures.room
