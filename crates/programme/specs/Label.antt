-- The labels of messages: a message of step k has label k, and four messages outside the steps have labels of their own.
use Rattle.std.specs.Prelude.{ℕ}
use Rattle.programme.specs.declared.Action.{Action}
use Rattle.programme.specs.declared.Action.TheVariants.{Send, Take}

-- allreduce: a rank that takes no part in the steps hands its value in
abbrev pub hand_in : ℕ
hand_in = 6

-- allreduce: the result is handed back to it
abbrev pub hand_back : ℕ
hand_back = 7

-- reduce: the result goes from rank 0 to the root
abbrev pub deliver : ℕ
deliver = 8

-- gather: a rank's value goes to the root
abbrev pub collect : ℕ
collect = 9

-- a message's tag has room for labels below this
abbrev pub label_count : ℕ
label_count = 16

-- the label under which an action sends or takes
abbrev pub label_of : Action → ℕ
label_of (Send to label) = label
label_of (Take from label merge) = label
