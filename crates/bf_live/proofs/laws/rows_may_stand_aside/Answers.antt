use Rattle.bf_live.proofs.Aside.{one_more_is_back, one_more_is_taken, rows_come_back, rows_leave_unread}
use Rattle.bf_live.proofs.laws.rows_may_stand_aside.Goals as goal

pub returns : goal.returns
returns c = record { back = rows_come_back; one_more_taken = one_more_is_taken; one_more_back = one_more_is_back; unread = rows_leave_unread }
