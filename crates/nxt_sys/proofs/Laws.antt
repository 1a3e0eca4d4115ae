-- What other crates may use.

-- What holds at the entry of a member of a call's cluster.
pub mod Named
