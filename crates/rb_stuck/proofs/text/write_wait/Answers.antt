-- What a process waits for is told by what it wants.
use Rattle.rb_stuck.proofs.text.write_wait.Goals as goal

pub returns-in-Line-None : goal.returns-in-Line-None
returns-in-Line-None g c = rw (c.in-Line-None.is-0, c.in-Line-None.is-1) c.put_line.ensures

pub returns-in-Line-Some : goal.returns-in-Line-Some
returns-in-Line-Some g c =
    rw (c.in-Line-Some.is-0, c.in-Line-Some.is-1)
    (rw (c.name_at-conversation.ensures, c.deref.ensures.value) at c.put_line-in-Line-Some.ensures)

pub returns-in-Room-default : goal.returns-in-Room-default
returns-in-Room-default g c =
    rw c.in-Room-default.is-0
    (rw (c.name_at-channel.ensures, c.deref-in-Room-default.ensures.value) at c.put_line-in-Room-default.ensures)

pub returns-in-Message-default : goal.returns-in-Message-default
returns-in-Message-default g c =
    rw c.in-Message-default.is-0
    (rw (c.name_at-channel-in-Message-default.ensures, c.deref-in-Message-default.ensures.value) at c.put_line-in-Message-default.ensures)
