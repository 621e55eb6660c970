-- `act`: each command is done by the function of its name, and a fault is put in words.
use Rattle.std.proofs.Common.{refl}
use Rattle.telling.specs.Told.{Unlent}
use Rattle.acting.proofs.act.act.Goals as goal

pub returns-in-Err : goal.returns-in-Err
unfolding Unlent
returns-in-Err g c = rw c.in-Err.is (c.do_wrong.ensures _ refl)

pub returns-in-Echo : goal.returns-in-Echo
unfolding Unlent
returns-in-Echo g c = rw (c.in-Ok.is, c.in-Echo.is) (c.do_echo.ensures _ refl)

pub returns-in-New : goal.returns-in-New
unfolding Unlent
returns-in-New g c = rw (c.in-Ok.is, c.in-New.is) (c.do_new.ensures _ refl)

pub returns-in-Handicap : goal.returns-in-Handicap
unfolding Unlent
returns-in-Handicap g c = rw (c.in-Ok.is, c.in-Handicap.is) (c.do_handicap.ensures _ refl)

pub returns-in-Pass : goal.returns-in-Pass
unfolding Unlent
returns-in-Pass g c = rw (c.in-Ok.is, c.in-Pass.is) (c.do_pass.ensures _ refl)

pub returns-in-Resign : goal.returns-in-Resign
unfolding Unlent
returns-in-Resign g c = rw (c.in-Ok.is, c.in-Resign.is) (c.do_resign.ensures _ refl)

pub returns-in-Resume : goal.returns-in-Resume
unfolding Unlent
returns-in-Resume g c = rw (c.in-Ok.is, c.in-Resume.is) (c.do_resume.ensures _ refl)

pub returns-in-State : goal.returns-in-State
unfolding Unlent
returns-in-State g c = rw (c.in-Ok.is, c.in-State.is) (c.do_state.ensures _ refl)

pub returns-in-Render : goal.returns-in-Render
unfolding Unlent
returns-in-Render g c = rw (c.in-Ok.is, c.in-Render.is) (c.do_render.ensures _ refl)
