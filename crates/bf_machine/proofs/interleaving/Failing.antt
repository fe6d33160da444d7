-- The end of a group by a cause of a log keeps all.
use Rattle.std.proofs.Common.{◌≡◌, ℕ, true, List, refl, sym, subst, inr}
use Rattle.std.proofs.lemmas.Bool.{false≢true}
use Rattle.bf_tree.specs.declared.history.Entry.{Entry}
use Rattle.bf_tree.specs.declared.reply.Cause.{Cause}
use Rattle.bf_tree.specs.declared.reply.Cause.TheVariants.{Died}
use Rattle.bf_tree.specs.declared.script.Script.{Script}
use Rattle.bf_sql.specs.Database.{Database}
use Rattle.bf_machine.specs.interleaving.Machines.{Began, Group, IsAmong, Machine, MayEnd}
use Rattle.bf_machine.specs.interleaving.Kept.{CausesAllowed, IsAllowed, IsKept, is_of_log}
use Rattle.bf_machine.specs.interleaving.Events.{EndsByLog, ended}
use Rattle.bf_machine.proofs.interleaving.Caused.{caused_keeps, told_all, told_size}
use Rattle.bf_machine.proofs.interleaving.Rest.{StaysAtEnd, deaths_then}
use Rattle.bf_machine.proofs.interleaving.Texts.{AreTexts}

-- a cause of a log is allowed where a log may end the group by it
log_allows : (start : Database) (script : Script) (began : List Began) (history : List Entry) (may_end : MayEnd) (retries s : ℕ) (group : Group) (cause : Cause)
    → IsAmong may_end (record { session = s; group = group; cause = cause }) → is_of_log cause ≡ true → IsAllowed start script began history may_end retries s group cause
log_allows start script began history may_end retries s group (Died h) may of_log = absurd (false≢true of_log)
log_allows start script began history may_end retries s group other may of_log = may

-- AN END BY A LOG KEEPS ALL
pub log_keeps_all : (start : Database) (m : Machine) (kept : IsKept start m) (texts : AreTexts m.script) (s : ℕ) (next : Machine) → EndsByLog m s next → IsKept start next
log_keeps_all start m kept texts s next by =
    let o = by.o in
    let answers = told_all start m kept texts s o by.is by.cause in
    let stays : StaysAtEnd start m m.began m.history =
    record { start_then = λ t g n has. has; start_was = λ t g n has. has; join_then = λ t g name mode join. join; died_then = λ t g h died. died } in
    let closes = inr (told_size start m kept texts s o by.is by.cause answers refl) in
    let causes : CausesAllowed start (ended m s o answers) =
    record { deaths = λ n b is. deaths_then start m kept s o by.is answers closes m.db m.began m.history stays n b (kept.causes_allowed.deaths n b is) } in
    subst (IsKept start) (sym by.goes)
    (caused_keeps start m kept texts s o by.is by.cause answers m.began stays (λ t g cause has_ended allowed. allowed)
    (inr (refl, log_allows start m.script m.began m.history m.may_end m.retries s o.group by.cause by.may by.of_log)) causes)
