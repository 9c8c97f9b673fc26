-- A line that is joined in one way is the line that is joined in another.
use Rattle.std.proofs.Common.{◌≡◌, ℕ, List, ◌++◌, refl, append_assoc}

pub grouped : (a peer b from c until d messages e received f sent g ended failed reason h : List ℕ) →
    a ++ ((peer ++ (b ++ (from ++ (c ++ (until ++ (d ++ (messages ++ (e ++ (received ++ (f ++ sent)))))))))) ++ (g ++ (ended ++ (failed ++ (reason ++ h)))))
    ≡ a ++ peer ++ b ++ from ++ c ++ until ++ d ++ messages ++ e ++ received ++ f ++ sent ++ g ++ ended ++ failed ++ reason ++ h
grouped a peer b from c until d messages e received f sent g ended failed reason h = simp append_assoc refl
